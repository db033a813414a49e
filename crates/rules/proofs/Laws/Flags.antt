-- Flags by name, and back again: all of it.
-- Assumes nothing.
use Rattle.rules.specs.Flags.{FlagsRules}
use Rattle.rules.proofs.Laws.FlagsRead.{names_are, names_only, list_exactly, list_only}
use Rattle.rules.proofs.Laws.FlagsWanted.{wants_only}
use Rattle.rules.proofs.Laws.FlagsPlans.{mark_wants_only, move_wants_only, back_wants_only}
use Rattle.rules.proofs.Laws.FlagsLeft.{marking_left, marking_again, mark_added, mark_laid, mark_sent, mark_finishes, mark_empty}
use Rattle.rules.proofs.Laws.FlagsMoved.{moving_left, moving_done, move_sent, back_left, back_sent}
use Rattle.rules.proofs.Laws.FlagsAgain.{move_again, back_again}
use Rattle.rules.proofs.Laws.FlagsRestored.{flags_restored, all_listed, names_restored, names_since}
use Rattle.rules.proofs.Laws.FlagsCalls.{name_read_call, mark_call}
use Rattle.rules.proofs.Laws.FlagsLists.{move_call, back_call}

pub flags_rules : FlagsRules
flags_rules = record {
  names_are = names_are;
  names_only = λ bytes. names_only bytes 0;
  list_are = list_exactly;
  list_only = list_only;
  wants_only = wants_only;
  mark_wants_only = mark_wants_only;
  move_wants_only = move_wants_only;
  back_wants_only = back_wants_only;
  is_read = name_read_call;
  mark = mark_call;
  move = move_call;
  back = back_call;
  mark_sent = mark_sent;
  move_sent = move_sent;
  back_sent = back_sent;
  mark_left = marking_left;
  mark_again = marking_again;
  mark_added = mark_added;
  mark_laid = mark_laid;
  mark_finishes = mark_finishes;
  mark_empty = mark_empty;
  move_left = moving_left;
  move_again = move_again;
  move_done = moving_done;
  back_left = back_left;
  back_again = back_again;
  there_and_back = flags_restored;
  all_listed = all_listed;
  back_and_there = names_restored;
  over_history = names_since;
}
