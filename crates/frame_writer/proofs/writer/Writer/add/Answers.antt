use Rattle.frame_writer.proofs.Keeping.{all_written}
use Rattle.frame_writer.proofs.writer.Writer.add.Goals as goal

pub returns : goal.returns
returns c = all_written _ _ _ c.requires c.send.ensures
