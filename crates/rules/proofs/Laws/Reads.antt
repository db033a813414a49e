-- The opcodes that show something: from the row to the bytes.
-- Assumes nothing.
use mathlib.Core.Path.{◌≡◌, refl, sym, ap, ap₂, ◌∙◌}
use mathlib.Core.Bool.{Bool, false, cond, true≢false}
use mathlib.Core.List.{List, [], ◌∷◌}
use mathlib.Core.Logic.{◌⊎◌, inl, inr, ⊎_elim}
use Prim.Native.Nat.{ℕ, ◌+◌, ◌-◌, ◌%◌, ◌≤◌}
use native.Mathlib.Omega.{arith}
use lib.Dec.{eqb}
use lib.ListN.{get_or}
use borrow.Author.Tests.{lt-ltb, le-ltb}
use Rattle.std.specs.Prelude.{Some}
use Rattle.common.proofs.Laws.Choice.{cases}
use Rattle.common.proofs.Laws.Lists.{split}
use Rattle.chip.specs.declared.Chip.{Chip}
use Rattle.chip.specs.declared.kinds.Kind.TheVariants.{Read, FastRead, Rdsr, Res, JedecId, Rdid}
use Rattle.state.specs.State.{with_power_down}
use Rattle.state.specs.Status.{status_of}
use Rattle.command.specs.declared.Command.TheVariants.{ReadStatus, ReadArray, ReadSignature}
use Rattle.command.specs.Command.{address, look, aai_rows, by_kind, command_of}
use Rattle.command.proofs.Laws.Modes.{seen_busy, seen_in_aai, seen_asleep}
use Rattle.registers.proofs.Laws.After.{after_read_status, after_read_array, after_read_jedec, after_read_signature, after_read_identity}
use Rattle.output.specs.Output.{memory, since, jedec, identity}
use Rattle.output.proofs.Laws.Shown.{shows_read_status, shows_read_array, shows_read_jedec, shows_read_signature, shows_read_identity}
use Rattle.frame.specs.Device.{Device}
use Rattle.frame.specs.Line.{Line}
use Rattle.frame.specs.Call.{Accepted}
use Rattle.rules.specs.Chips.{by_chip}
use Rattle.rules.specs.Frames.{unchanged, Does, disarmed}
use Rattle.rules.specs.Opcodes.{address_in, bytes_from, array_up, Reads}
use Rattle.rules.proofs.Laws.Chips.{data_by_chip}
use Rattle.rules.proofs.Laws.Does.{changes_nothing, does, by_mode}
use Rattle.rules.proofs.Laws.Rows.{size_is, address_in_lem, kind_of_both, seen}

-- ---- bytes shown

-- identity: by turns, from the address on
identity_shown : (device a i : ℕ) → since 4 i (identity device (eqb (a % 2) 1) i)
    ≡ bytes_from 4 (λ j. cond (eqb ((a + j) % 2) 0) 0x8c device) i
identity_shown device a i = ⊎_elim (λ l. rw (lt-ltb i 4 l) refl) (λ l. rw (le-ltb i 4 l) (ap Some (by_parity l (parity a) (parity i)))) (split i 4)
  where
    parity : (n : ℕ) → (n % 2 ≡ 0) ⊎ (n % 2 ≡ 1)
    parity n = ⊎_elim (λ l. inl (omega arith)) (λ l. inr (omega arith)) (split (n % 2) 1)

    by_parity : 4 ≤ i → (a % 2 ≡ 0) ⊎ (a % 2 ≡ 1) → (i % 2 ≡ 0) ⊎ (i % 2 ≡ 1)
        → identity device (eqb (a % 2) 1) i ≡ cond (eqb ((a + (i - 4)) % 2) 0) 0x8c device
    by_parity l (inl p) (inl q) = let e : (a + (i - 4)) % 2 ≡ 0 = omega (arith, l, p, q) in rw (p, q, e) refl
    by_parity l (inl p) (inr q) = let e : (a + (i - 4)) % 2 ≡ 1 = omega (arith, l, p, q) in rw (p, q, e) refl
    by_parity l (inr p) (inl q) = let e : (a + (i - 4)) % 2 ≡ 1 = omega (arith, l, p, q) in rw (p, q, e) refl
    by_parity l (inr p) (inr q) = let e : (a + (i - 4)) % 2 ≡ 0 = omega (arith, l, p, q) in rw (p, q, e) refl

module _ {wp : Bool} {f : List ℕ} {d : Device} {line : Line} (a : Accepted wp f d line) where
  status_shown : command_of d.state wp f ≡ ReadStatus → Does wp f d line (bytes_from 1 (λ j. status_of d.state)) (disarmed d) unchanged
  status_shown e = does a e (λ i. shows_read_status d.state (memory d.array) i) (after_read_status d.state) (changes_nothing f refl)

  array_shown : (n : ℕ) → command_of d.state wp f ≡ ReadArray (address d.state f) n
      → Does wp f d line (bytes_from n (array_up f d)) (disarmed d) unchanged
  array_shown n e =
      does a e
      (λ i. shows_read_array d.state (memory d.array) i (address d.state f) n
      ∙ ap₂ (λ (x size : ℕ). since n i (get_or d.array ((x + (i - n)) % size) 0)) (address_in_lem a) (size_is a))
      (after_read_array d.state (address d.state f) n) (changes_nothing f refl)

  signature_shown : command_of d.state wp f ≡ ReadSignature
      → Does wp f d line (bytes_from (by_chip d.state.chip 1 4) (λ j. by_chip d.state.chip 0x13 0x05)) (with_power_down (disarmed d) false) unchanged
  signature_shown e =
      does a e
      (λ i. shows_read_signature d.state (memory d.array) i
      ∙ ap₂ (λ (n x : ℕ). since n i x) (data_by_chip d.state.chip a.sound.chip_known (λ (c : Chip). c.preamble))
      (data_by_chip d.state.chip a.sound.chip_known (λ (c : Chip). c.signature)))
      (after_read_signature d.state) (changes_nothing f refl)

  pub reads : Reads wp f d line
  unfolding by_kind
  reads = record {
    read_status = λ awake e. status_shown (by_mode a
        (λ busy. seen_busy d.state f wp busy ∙ ap (look ((0x05, ReadStatus) ∷ [])) e)
        (λ still aai. seen_in_aai d.state f wp still aai ∙ ap (look (aai_rows d.state f)) e)
        (λ _ _ asleep. absurd (true≢false (sym asleep ∙ awake)))
        (λ r. seen a r (kind_of_both a 0x05 Rdsr refl refl e)));
    read = λ r e. array_shown 4 (seen a r (kind_of_both a 0x03 Read refl refl e));
    fast_read_lem = λ r e. array_shown 5 (seen a r (kind_of_both a 0x0b FastRead refl refl e));
    jedec = λ r e. does a (seen a r (kind_of_both a 0x9f JedecId refl refl e))
        (λ i. shows_read_jedec d.state (memory d.array) i
        ∙ ap₂ (λ (x y : ℕ). jedec x y i) (data_by_chip d.state.chip a.sound.chip_known (λ (c : Chip). c.family))
        (data_by_chip d.state.chip a.sound.chip_known (λ (c : Chip). c.capacity)))
        (after_read_jedec d.state) (changes_nothing f refl);
    signature = λ still single e. signature_shown (cases d.state.power_down
        (λ asleep. seen_asleep d.state f wp still single asleep ∙ ap (look ((0xab, ReadSignature) ∷ [])) e)
        (λ awake. seen a record { still = still; single = single; awake = awake } (kind_of_both a 0xab Res refl refl e)));
    identity = λ r e. does a (seen a r (kind_of_both a 0x90 Rdid refl refl e))
        (λ i. shows_read_identity d.state (memory d.array) i (eqb (address d.state f % 2) 1)
        ∙ ap₂ (λ (device x : ℕ). since 4 i (identity device (eqb (x % 2) 1) i))
        (data_by_chip d.state.chip a.sound.chip_known (λ (c : Chip). c.device_id)) (address_in_lem a)
        ∙ identity_shown _ (address_in f d) i)
        (after_read_identity d.state _) (changes_nothing f refl);
  }
