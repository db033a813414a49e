-- Effects that do not go round: none, an erase, and data laid straight up. Which addresses they touch and what becomes of each; and a page program whose
-- data stays in its page is one.
-- Assumes nothing.
use mathlib.Core.Path.{◌≡◌, refl}
use mathlib.Core.Bool.{true, false}
use mathlib.Core.List.{List}
use Prim.Native.Nat.{ℕ, ◌+◌, ◌-◌, ◌*◌, ◌/◌, ◌%◌, ◌≤◌, ◌<◌}
use native.Mathlib.Omega.{arith}
use lib.Bits.{bit_and}
use lib.Dec.{leb}
use lib.ListN.{get_or, length}
use borrow.Author.Tests.{leb-true, le-leb}
use Rattle.common.specs.Lists.{mapi, on_run, within}
use Rattle.common.proofs.Laws.Choice.{cond_elim}
use Rattle.common.proofs.Laws.Lists.{mapi_id}
use Rattle.common.proofs.Laws.Places.{within_yes, run_within}
use Rattle.effect.specs.declared.Effect.{Effect}
use Rattle.effect.specs.declared.Effect.TheVariants.{Keep, Fill, Program}
use Rattle.effect.specs.Effect.{page_effect, touches, struck, changed, span_of, Supplied}
use Rattle.effect.specs.Cut.{cut}
use Rattle.effect.proofs.Laws.Effect.{changed_other, cut_other}

-- ---- none

pub keep_untouched : (k : ℕ) → touches Keep k ≡ false
unfolding touches
keep_untouched k = refl

pub keep_array : (f array : List ℕ) → mapi (changed Keep f) array ≡ array
keep_array f array = mapi_id (changed Keep f) array (λ k h. changed_other Keep f k (get_or array k 0) (keep_untouched k))

-- cut short too, by whatever mask
pub keep_array_cut : (f array mask : List ℕ) → mapi (cut Keep f mask) array ≡ array
keep_array_cut f array mask = mapi_id (cut Keep f mask) array (λ k h. cut_other Keep f k (get_or array k 0) mask (keep_untouched k))

-- ---- the addresses, and what becomes of each

pub fill_touches : (a n k : ℕ) → touches (Fill a n) k ≡ within a n k
unfolding touches
fill_touches a n k = refl

pub fill_struck : (a n : ℕ) (f : List ℕ) (k x : ℕ) → struck (Fill a n) f k x ≡ 255
unfolding struck
fill_struck a n f k x = refl

pub program_touches_is : (a n i k : ℕ) → touches (Program a n i) k ≡ within a n k
unfolding touches
program_touches_is a n i k = refl

-- ---- runs of neighbours in one pass

module _ (a n : ℕ) (f array : List ℕ) where
  pub fill_in_a_run : mapi (on_run a (a + n) (λ k x. 255)) array ≡ mapi (changed (Fill a n) f) array
  unfolding changed touches struck
  fill_in_a_run = run_within a n (λ k x. 255) array

  pub program_in_a_run : (i : ℕ) → mapi (on_run a (a + n) (λ k x. bit_and x (get_or f (i + (k - a)) 0))) array ≡ mapi (changed (Program a n i) f) array
  unfolding changed touches struck
  program_in_a_run i = run_within a n (λ k x. bit_and x (get_or f (i + (k - a)) 0)) array

-- ---- n bytes from address a, sent from the frame's byte i on

module _ (a n i k : ℕ) where
  pub program_touches : a ≤ k → k < a + n → touches (Program a n i) k ≡ true
  unfolding touches
  program_touches h l = within_yes a n k h l

  pub program_struck : (f : List ℕ) (x : ℕ) → struck (Program a n i) f k x ≡ bit_and x (get_or f (i + (k - a)) 0)
  unfolding struck
  program_struck f x = refl

-- ---- a page program

module _ (a n : ℕ) where
  -- data that stays in its page goes straight up
  pub page_straight : a % 256 + n ≤ 256 → page_effect a n ≡ Program a n 4
  unfolding page_effect
  page_straight h = rw (le-leb n (256 - a % 256) (omega arith)) refl

  -- any data does
  pub page_below_end : (span_of (page_effect a n)).end ≤ a / 256 * 256 + 256
  unfolding page_effect
  page_below_end =
      cond_elim (λ (e : Effect). (span_of e).end ≤ a / 256 * 256 + 256) (leb n (256 - a % 256)) (λ t. omega (arith, leb-true n (256 - a % 256) t))
      (λ _. omega arith)

  pub page_supplied : (f : List ℕ) → 4 + n ≤ length f → Supplied (page_effect a n) f
  unfolding page_effect
  page_supplied f h = cond_elim (λ (e : Effect). Supplied e f) (leb n (256 - a % 256)) (λ _. h) (λ _. tt)
