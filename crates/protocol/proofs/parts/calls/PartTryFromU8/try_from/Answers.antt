use Rattle.std.proofs.Common.{None, Option, ok_or, ap, rules, tests}
use Rattle.std.proofs.lemmas.Iterator.{YieldsList-from_slice}
use Rattle.std.proofs.lemmas.Iterator.Search.{find_from_yields_List}
use Rattle.protocol.specs.declared.parts.Part.{Part}
use Rattle.protocol.specs.declared.refusal.Cause.TheVariants.{BadSettings}
use Rattle.protocol.specs.Parts.{rows}
use Rattle.protocol.proofs.Table.{has_number, answered}
use Rattle.protocol.proofs.parts.calls.PartTryFromU8.try_from.Goals as goal

pub returns-in-None : goal.returns-in-None
returns-in-None c =
    let none = find_from_yields_List (has_number c.args.number) _ _ None c.in-None.ensures.ran (YieldsList-from_slice rows cc) (λ x b q k. search (rules, tests)) in
    ap (λ (o : Option Part). ok_or o BadSettings) (answered c.args.number None none)
