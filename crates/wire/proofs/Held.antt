-- The laws of the wire together.
use Rattle.wire.specs.Laws.{Laws}
use Rattle.wire.proofs.Carrying.{frame_carries_out, read_opens_cell}
use Rattle.wire.proofs.Cells.{cells_from-length, cells_from-at, set_cell_same, set_cell_other, fill_cells_inside}
use Rattle.wire.proofs.Hears.{heard_is_run, words_heard-more, read_answers_cells, read_rests}
use Rattle.wire.proofs.Keeping.{put_keeps_fits}
use Rattle.wire.proofs.Polls.{poll_ready_iff, poll_rests}
use Rattle.wire.proofs.Resting.{idle-rests}

pub laws : Laws
laws =
    record {
      poll_ready_iff = poll_ready_iff;
      poll_rests = poll_rests;
      idle_rests = idle-rests;
      put_keeps_fits = put_keeps_fits;
      frame_carries_out = frame_carries_out;
      read_opens_cell = read_opens_cell;
      read_answers_cells = read_answers_cells;
      read_rests = read_rests;
      heard_is_run = heard_is_run;
      words_heard_more = words_heard-more;
      cells_from_length = cells_from-length;
      cells_from_at = cells_from-at;
      set_cell_same = set_cell_same;
      set_cell_other = set_cell_other;
      fill_cells_inside = fill_cells_inside;
    }
