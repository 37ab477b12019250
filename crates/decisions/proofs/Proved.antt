-- All laws.
use Rattle.decisions.specs.Laws.{RunLaws, FrameLaws, ReaderLaws, Decisions}
use Rattle.decisions.proofs.Folding.{decisions_append, notes_append, decisions_are_noted, notes_of_first, take_of_decisions, bytes_are_decided, enabled_is_decided, left_of_run, left_only_ages, bytes_stay}
use Rattle.decisions.proofs.Acting.{left_is_decided}
use Rattle.decisions.proofs.Turns.{each_start_is_decided, runs_settle, notes_in_order, entries_in_order}
use Rattle.decisions.proofs.Still.{no_clock_decides_nothing, polling_has_no_clock, unselected_has_no_clock, unselected_rests, poll_take}
use Rattle.decisions.proofs.Prefixes.{frame_noted, frame_decided, frame_ends, frame_rests, decides_inside, take_decide, take_change}
use Rattle.decisions.proofs.Busy.{busy_frame}
use Rattle.decisions.proofs.Sessions.{polled_decide, polled_change}
use Rattle.decisions.proofs.Entries.{reader_appends, reader_goes_on, entries_of_any, bytes_of_any, notes_of_bytes, run_of_bytes, entries_are_noted, reader_follows, frame_entry, take_entry, frame_is_read, no_clock_no_entry, poll_is_read}

pub run_laws : RunLaws
run_laws = record {
  decisions_append = decisions_append;
  notes_append = notes_append;
  decisions_are_noted = decisions_are_noted;
  notes_of_first = notes_of_first;
  take_of_decisions = take_of_decisions;
  bytes_are_decided = bytes_are_decided;
  enabled_is_decided = enabled_is_decided;
  left_is_decided = left_is_decided;
  left_of_run = left_of_run;
  left_only_ages = left_only_ages;
  bytes_stay = bytes_stay;
  each_start_is_decided = each_start_is_decided;
  runs_settle = runs_settle;
  notes_in_order = notes_in_order;
}

pub frame_laws : FrameLaws
frame_laws = record {
  no_clock_decides_nothing = no_clock_decides_nothing;
  polling_has_no_clock = polling_has_no_clock;
  unselected_has_no_clock = unselected_has_no_clock;
  unselected_rests = unselected_rests;
  poll_take = poll_take;
  frame_notes = frame_noted;
  frame_decides = frame_decided;
  frame_ends = frame_ends;
  frame_rests = frame_rests;
  decides_inside = decides_inside;
  take_decide = take_decide;
  take_change = take_change;
  busy_frame = busy_frame;
  polled_decide = polled_decide;
  polled_change = polled_change;
}

pub reader_laws : ReaderLaws
reader_laws = record {
  reader_appends = reader_appends;
  reader_goes_on = reader_goes_on;
  entries_of_any = entries_of_any;
  bytes_of_any = bytes_of_any;
  entries_in_order = entries_in_order;
  notes_of_bytes = notes_of_bytes;
  run_of_bytes = run_of_bytes;
  entries_are_noted = entries_are_noted;
  reader_follows = reader_follows;
  frame_entry = frame_entry;
  take_entry = take_entry;
  frame_is_read = frame_is_read;
  no_clock_no_entry = no_clock_no_entry;
  poll_is_read = poll_is_read;
}

pub decisions : Decisions
decisions = record { runs = run_laws; frames = frame_laws; reader = reader_laws }
