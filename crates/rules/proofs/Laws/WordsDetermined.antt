-- The sentences of step 2 fix its records: the least word with a change comes next, so two lists of words go on with the same one.
-- Assumes nothing.
use mathlib.Core.Path.{◌≡◌, refl, sym, ap}
use mathlib.Core.Bool.{Bool}
use mathlib.Core.List.{List, [], ◌∷◌}
use mathlib.Core.Logic.{⊎_elim, ◌⊎◌}
use Prim.Native.Nat.{ℕ, ◌+◌, ◌%◌, ◌≤◌}
use native.Mathlib.Omega.{arith}
use lib.ListN.{length}
use Rattle.common.specs.Lists.{Each}
use Rattle.script.specs.Record.{Record, frame}
use Rattle.rules.specs.Sent.{Changing, Sent, HeldBy, SentAsWanted}
use Rattle.rules.specs.PlanWords.{WordsSaid, begins, goes_on, closes, ends, WordsStep}
use Rattle.rules.proofs.Laws.Sent.{bytes_determined, addressed_determined}

-- no word lies before the address that the records are said from
held_from : {in_run : Bool} {from : ℕ} {rs : List Record} {words : List Sent} → WordsSaid in_run from rs words → (k : ℕ) → HeldBy words k → from ≤ k
held_from (begins h b p) k held = ⊎_elim (λ here. omega (arith, here.0)) (λ there. omega (arith, held_from p k there)) held
held_from (goes_on p) k held = ⊎_elim (λ here. here.0) (λ there. omega (arith, held_from p k there)) held
held_from (closes p) k held = omega (arith, held_from p k held)
held_from ends k held = absurd held

module _ (array : List ℕ) (start : ℕ) (wanted : List ℕ) where
  abbrev HoldsChange : ℕ → Type 0
  HoldsChange a = Changing array start wanted a ⊎ Changing array start wanted (a + 1)

  -- what step 2 says of the words from an address on
  record WordsFrom (from : ℕ) (words : List Sent) : Type 0 where
    aligned : Each (λ (x : Sent). x.address % 2 ≡ 0) words
    holding_a_change : Each (λ (x : Sent). HoldsChange x.address) words
    all_changes : (address : ℕ) → from ≤ address → Changing array start wanted address → HeldBy words address
    as_wanted : Each (SentAsWanted start wanted) words

  behind_first : {from : ℕ} {x : Sent} {xs : List Sent} → WordsFrom from (x ∷ xs) → (next : ℕ) → from ≤ next → x.address + length x.bytes ≤ next
      → WordsFrom next xs
  behind_first f next h l = record {
    aligned = f.aligned.1;
    holding_a_change = f.holding_a_change.1;
    all_changes = λ k i c. ⊎_elim (λ here. absurd (omega (arith, here.1))) (λ there. there) (f.all_changes k (omega arith) c);
    as_wanted = f.as_wanted.1;
  }

  behind_none : {from : ℕ} {words : List Sent} → WordsFrom from words → WordsFrom (from + 2) words
  behind_none f = record {
    aligned = f.aligned;
    holding_a_change = f.holding_a_change;
    all_changes = λ k h c. f.all_changes k (omega arith) c;
    as_wanted = f.as_wanted;
  }

  -- a word with a change is not passed over
  reached : {in_run : Bool} {from next : ℕ} {rs : List Record} {words : List Sent} → WordsSaid in_run next rs words → WordsFrom from words → (a : ℕ)
      → from ≤ a → HoldsChange a → next ≤ a + 1
  reached p f a h =
      ⊎_elim (λ c. omega (arith, held_from p a (f.all_changes a h c))) (λ c. held_from p (a + 1) (f.all_changes (a + 1) (omega arith) c))

  words_determined : {in_run : Bool} {from : ℕ} {rs ss : List Record} {xs ys : List Sent} → WordsSaid in_run from rs xs → WordsSaid in_run from ss ys
      → WordsFrom from xs → WordsFrom from ys → rs ≡ ss
  words_determined (begins {address = a} {even = x} {odd = y} h b p) (begins {address = a'} {even = x'} {odd = y'} i c q) f g =
      let low : a' ≤ a + 1 = reached (begins {from = a'} {even = x'} {odd = y'} (omega arith) c q) g a h f.holding_a_change.0 in
      let high : a ≤ a' + 1 = reached (begins {from = a} {even = x} {odd = y} (omega arith) b p) f a' i g.holding_a_change.0 in
      let same : a ≡ a' = omega (arith, f.aligned.0, g.aligned.0) in
      let bytes = addressed_determined start wanted (x ∷ y ∷ []) (x' ∷ y' ∷ []) same refl b c f.as_wanted.0 g.as_wanted.0 in
      let rest = words_determined p (rw (sym same) at q) (behind_first f (a + 2) (omega arith) (omega arith)) (behind_first g (a + 2) (omega arith) (omega arith)) in
      cc
  words_determined (begins {address = a} h b p) ends f g = absurd (omega (arith, reached (ends {from = a + 2}) g a h f.holding_a_change.0))
  words_determined (goes_on {neighbour = a} {even = x} {odd = y} p) (goes_on {even = x'} {odd = y'} q) f g =
      let bytes = bytes_determined start wanted a (x ∷ y ∷ []) (x' ∷ y' ∷ []) refl f.as_wanted.0 g.as_wanted.0 in
      let rest = words_determined p q (behind_first f (a + 2) (omega arith) (omega arith)) (behind_first g (a + 2) (omega arith) (omega arith)) in
      cc
  words_determined (goes_on {neighbour = a} p) (closes q) f g = absurd (omega (arith, reached q g a (omega arith) f.holding_a_change.0))
  words_determined (closes p) (goes_on {neighbour = a} q) f g = absurd (omega (arith, reached p f a (omega arith) g.holding_a_change.0))
  words_determined (closes p) (closes q) f g = ap (λ (rs : List Record). frame (0x04 ∷ []) ∷ rs) (words_determined p q (behind_none f) (behind_none g))
  words_determined ends (begins {address = a} i c q) f g = absurd (omega (arith, reached (ends {from = a + 2}) f a i g.holding_a_change.0))
  words_determined ends ends f g = refl

  pub words_step_determined : {rs ss : List Record} → WordsStep array start wanted rs → WordsStep array start wanted ss → rs ≡ ss
  words_step_determined p q = words_determined p.in_runs q.in_runs (from_0 p) (from_0 q)
    where
      from_0 : {rs : List Record} (p : WordsStep array start wanted rs) → WordsFrom 0 p.words
      from_0 p = record {
        aligned = p.aligned;
        holding_a_change = p.holding_a_change;
        all_changes = λ k _ c. p.all_changes k c;
        as_wanted = p.as_wanted;
      }
