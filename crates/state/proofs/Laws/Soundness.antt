-- The test `is_sound` says exactly `Sound`.
-- Assumes nothing.
use mathlib.Core.Path.{◌≡◌, refl, sym, ap, ◌∙◌}
use mathlib.Core.Bool.{true, false, ◌&&◌, ◌||◌, not, false≢true}
use Prim.Native.Nat.{◌%◌, ◌≤◌, ◌<◌}
use native.Mathlib.Omega.{arith}
use lib.Dec.{leb, ltb, eqb}
use borrow.Author.Tests.{leb-true, ltb-true, eqb-true, ltb-false, le-leb, lt-ltb, le-ltb, eq-eqb, not-true, not-false}
use Rattle.common.specs.Lists.{Each}
use Rattle.common.proofs.Laws.Booleans.{and_l, and_r, and_i, not_i, or_imp, imp_or, or_none_l, or_none_r, implies_elim, implies_i}
use Rattle.common.proofs.Laws.Choice.{cases}
use Rattle.common.proofs.Laws.Pairs.{◌▹◌}
use Rattle.chip.specs.Chip.{is_known}
use Rattle.chip.proofs.Laws.Chip.{regular}
use Rattle.state.specs.declared.State.{State}
use Rattle.state.specs.State.{data_of}
use Rattle.state.specs.Protection.{first_protected}
use Rattle.state.specs.Status.{writable_bits}
use Rattle.state.specs.Soundness.{all_of, is_busy, register_clauses, aai_clauses, pending_clauses, is_sound, Busy, Running, Writing, Sound}
use Rattle.state.proofs.Laws.Clauses.{Holds, each, all_each, fails_at, denied}

-- ---- from the test to the words

busy_true : (s : State) → 0 < s.left → is_busy s ≡ true
busy_true s h = lt-ltb 0 s.left h

running : (s : State) → Each Holds (aai_clauses s) → s.aai ≡ true → Running s
running s k a = record {
  enabled = implies_elim s.aai s.wel k.1.0 a;
  disarmed = not-true s.armed (implies_elim s.aai (not s.armed) k.1.1.0 a);
  left_le_7 = leb-true s.left 7 (implies_elim s.aai (leb s.left 7) k.1.1.1.0 a);
  next_even = eqb-true (s.next % 2) 0 (implies_elim s.aai (eqb (s.next % 2) 0) k.1.1.1.1.0 a);
  next_ge_2 = leb-true 2 s.next (implies_elim s.aai (leb 2 s.next) k.1.1.1.1.1.0 a);
  next_le_first = leb-true s.next (first_protected s) (implies_elim s.aai (leb s.next (first_protected s)) k.1.1.1.1.1.1.0 a);
  next_lt_first = λ z. ltb-true s.next (first_protected s)
      (or_imp (is_busy s) (ltb s.next (first_protected s))
      (implies_elim s.aai (is_busy s || ltb s.next (first_protected s)) k.1.1.1.1.1.1.1.0 a) (le-ltb 0 s.left (omega arith)));
}

writing : (s : State) → Each Holds (pending_clauses s) → s.pending ≡ true → Writing s
writing s k p = record {
  busy = ltb-true 0 s.left (implies_elim s.pending (is_busy s) k.0 p);
  takes_time = ltb-true 0 (data_of s).status_time (implies_elim s.pending (ltb 0 (data_of s).status_time) k.1.0 p);
}

pub sound_of : (s : State) → is_sound s ≡ true → Sound s
unfolding is_sound
sound_of s e =
    let two = and_l (all_of (register_clauses s) && all_of (aai_clauses s)) (all_of (pending_clauses s)) e in
    let k = each (register_clauses s) (and_l (all_of (register_clauses s)) (all_of (aai_clauses s)) two) in
    let m = each (aai_clauses s) (and_r (all_of (register_clauses s)) (all_of (aai_clauses s)) two) in
    let p = each (pending_clauses s) (and_r (all_of (register_clauses s) && all_of (aai_clauses s)) (all_of (pending_clauses s)) e) in
    record {
      chip_known = k.0;
      bp_le_7 = leb-true s.bp 7 k.1.0;
      left_le_chip_time = leb-true s.left (data_of s).chip_time k.1.1.0;
      while_busy = λ h. record {
        enabled = implies_elim (is_busy s) s.wel k.1.1.1.0 (busy_true s h);
        disarmed = not-true s.armed (implies_elim (is_busy s) (not s.armed) k.1.1.1.1.0 (busy_true s h));
        awake = not-true s.power_down (implies_elim (is_busy s) (not s.power_down) k.1.1.1.1.1.0 (busy_true s h));
      };
      armed_awake = λ a. not-true s.power_down (implies_elim s.armed (not s.power_down) k.1.1.1.1.1.1.0 a);
      armed_enabled = λ w a. or_imp (data_of s).ewsr s.wel (implies_elim s.armed ((data_of s).ewsr || s.wel) k.1.1.1.1.1.1.1.0 a) w;
      tb_had = implies_elim s.tb (data_of s).top_bottom k.1.1.1.1.1.1.1.1.0;
      power_down_had = implies_elim s.power_down (data_of s).sleeps k.1.1.1.1.1.1.1.1.1.0;
      aai_had = implies_elim s.aai (data_of s).aai k.1.1.1.1.1.1.1.1.1.1.0;
      next_0_without_aai = λ a. eqb-true s.next 0 (or_imp s.aai (eqb s.next 0) m.0 a);
      in_aai_lem = running s m;
      while_pending = writing s p;
      bits_0_without_pending = λ o. eqb-true s.pending_bits 0 (or_imp s.pending (eqb s.pending_bits 0) p.1.1.0 o);
      bits_writable = eqb-true s.pending_bits (writable_bits s.pending_bits) p.1.1.1.0;
    }

-- ---- and back

pub of_running : (s : State) → (s.aai ≡ true → Running s) → (s.aai ≡ false → s.next ≡ 0) → Each Holds (aai_clauses s)
of_running s r z =
    imp_or s.aai (eqb s.next 0) (λ a. eq-eqb s.next 0 (z a))
    ▹ implies_i s.aai s.wel (λ a. (r a).enabled)
    ▹ implies_i s.aai (not s.armed) (λ a. not_i s.armed (r a).disarmed)
    ▹ implies_i s.aai (leb s.left 7) (λ a. le-leb s.left 7 (r a).left_le_7)
    ▹ implies_i s.aai (eqb (s.next % 2) 0) (λ a. eq-eqb (s.next % 2) 0 (r a).next_even)
    ▹ implies_i s.aai (leb 2 s.next) (λ a. le-leb 2 s.next (r a).next_ge_2)
    ▹ implies_i s.aai (leb s.next (first_protected s)) (λ a. le-leb s.next (first_protected s) (r a).next_le_first)
    ▹ implies_i s.aai (is_busy s || ltb s.next (first_protected s)) (λ a. imp_or (is_busy s) (ltb s.next (first_protected s))
    (λ b. lt-ltb s.next (first_protected s) ((r a).next_lt_first (let h = ltb-false 0 s.left b in omega arith))))
    ▹ tt

pub of_writing : (s : State) → (s.pending ≡ true → Writing s) → (s.pending ≡ false → s.pending_bits ≡ 0) → s.pending_bits ≡ writable_bits s.pending_bits
    → Each Holds (pending_clauses s)
of_writing s w z b =
    implies_i s.pending (is_busy s) (λ p. lt-ltb 0 s.left (w p).busy)
    ▹ implies_i s.pending (ltb 0 (data_of s).status_time) (λ p. lt-ltb 0 (data_of s).status_time (w p).takes_time)
    ▹ imp_or s.pending (eqb s.pending_bits 0) (λ o. eq-eqb s.pending_bits 0 (z o))
    ▹ eq-eqb s.pending_bits (writable_bits s.pending_bits) b
    ▹ tt

-- the registers' clauses
pub of_registers : (s : State) → is_known s.chip ≡ true → s.bp ≤ 7 → s.left ≤ (data_of s).chip_time
    → (0 < s.left → Busy s)
    → (s.armed ≡ true → s.power_down ≡ false)
    → ((data_of s).ewsr ≡ false → s.armed ≡ true → s.wel ≡ true)
    → (s.tb ≡ true → (data_of s).top_bottom ≡ true)
    → (s.power_down ≡ true → (data_of s).sleeps ≡ true)
    → (s.aai ≡ true → (data_of s).aai ≡ true)
    → all_of (register_clauses s) ≡ true
of_registers s known three short busy awake enabled tb sleeps aai =
    all_each (register_clauses s) (
    known
    ▹ le-leb s.bp 7 three
    ▹ le-leb s.left (data_of s).chip_time short
    ▹ implies_i (is_busy s) s.wel (λ b. (busy (ltb-true 0 s.left b)).enabled)
    ▹ implies_i (is_busy s) (not s.armed) (λ b. not_i s.armed (busy (ltb-true 0 s.left b)).disarmed)
    ▹ implies_i (is_busy s) (not s.power_down) (λ b. not_i s.power_down (busy (ltb-true 0 s.left b)).awake)
    ▹ implies_i s.armed (not s.power_down) (λ a. not_i s.power_down (awake a))
    ▹ implies_i s.armed ((data_of s).ewsr || s.wel) (λ a. imp_or (data_of s).ewsr s.wel (λ w. enabled w a))
    ▹ implies_i s.tb (data_of s).top_bottom tb
    ▹ implies_i s.power_down (data_of s).sleeps sleeps
    ▹ implies_i s.aai (data_of s).aai aai
    ▹ tt
    )

pub of_sound : (s : State) → Sound s → is_sound s ≡ true
unfolding is_sound
of_sound s h =
    and_i
    (and_i
    (of_registers s h.chip_known h.bp_le_7 h.left_le_chip_time h.while_busy h.armed_awake h.armed_enabled h.tb_had h.power_down_had h.aai_had)
    (all_each (aai_clauses s) (of_running s h.in_aai_lem h.next_0_without_aai)))
    (all_each (pending_clauses s) (of_writing s h.while_pending h.bits_0_without_pending h.bits_writable))

-- ---- where nothing is pending

module _ (s : State) (h : Sound s) where
  -- at rest
  pub still_not_pending : s.left ≡ 0 → s.pending ≡ false
  still_not_pending z = cases s.pending (λ p. absurd (omega (arith, (h.while_pending p).busy))) (λ o. o)

  -- in AAI: a chip that has it has no such status write
  pub aai_not_pending : s.aai ≡ true → s.pending ≡ false
  aai_not_pending a =
      cases s.pending (λ p. absurd (false≢true (sym ((regular s.chip).timed (h.while_pending p).takes_time).no_aai ∙ h.aai_had a))) (λ o. o)

-- ---- the code's test of "and then WEL is 1 and neither armed nor power-down holds"

pub busy_holds : (s : State) → (not s.wel || s.armed) || s.power_down ≡ false → Busy s
busy_holds s e =
    let two = or_none_l (not s.wel || s.armed) s.power_down e in
    record {
      enabled = not-false s.wel (or_none_l (not s.wel) s.armed two);
      disarmed = or_none_r (not s.wel) s.armed two;
      awake = or_none_r (not s.wel || s.armed) s.power_down e;
    }

pub busy_fails : (s : State) → 0 < s.left → (not s.wel || s.armed) || s.power_down ≡ true → false ≡ all_of (register_clauses s)
busy_fails s h e =
    cases s.wel
    (λ w. cases s.armed
    (λ a. fails_at 4 (register_clauses s) (denied (busy_true s h) (rw a refl)))
    (λ a. fails_at 5 (register_clauses s) (denied (busy_true s h) (ap not (or_imp (not s.wel || s.armed) s.power_down e (rw (w, a) refl))))))
    (λ w. fails_at 3 (register_clauses s) (denied (busy_true s h) w))
