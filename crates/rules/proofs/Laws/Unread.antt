-- Nothing turns unread by itself, of what the call that runs a script answers; and what a taken erase is.
-- Assumes nothing.
use mathlib.Core.Path.{refl, sym, ◌∙◌}
use Rattle.frame.proofs.Laws.Accepted.{number_accepted}
use Rattle.unread.proofs.Laws.Unread.{nothing_turns_unread}
use Rattle.rules.specs.Unread.{UnreadRules}
use Rattle.rules.proofs.Laws.Erases.{erases_exactly}

pub unread_rules : UnreadRules
unread_rules = record {
  erase_taken = λ wp f d line e. erases_exactly (number_accepted wp f d line e);
  wait_is_none = λ wp n d. refl;
  any_script = λ wp script d line ran after shown runs good. rw runs.device_is (nothing_turns_unread wp script d line (sym runs.number_is ∙ good));
}
