-- A call's number and its table in words: where each condition that the call tests means the table's, the number is the table's.
-- Assumes nothing.
use mathlib.Core.Path.{◌≡◌, refl, sym, ◌∙◌}
use mathlib.Core.Bool.{Bool, true, false, true≢false}
use mathlib.Core.List.{List, [], ◌∷◌}
use mathlib.Core.Logic.{inl, inr, ⊎_elim}
use Prim.Native.Nat.{ℕ, ◌<◌}
use native.Mathlib.Omega.{arith}
use lib.Dec.{eqb}
use Rattle.common.specs.Refusals.{first_of, Exactly}
use Rattle.common.proofs.Laws.Lists.{split}
use Rattle.common.proofs.Laws.Refusals.{Clear, are_numbered, clear, first_of_clear, is_listed, GivenBy, Given, given_exactly}
use Rattle.rules.specs.Numbered.{Check, ◌when◌, is_checked, FirstBy, FirstIs, NoneHolds, Numbered}
use Rattle.rules.proofs.Laws.Tests.{off}

-- a test of the call and a row of the table, before others with the same numbers; the rows behind count only where the test fails
pub record Meant (r : ℕ × Bool) (rs : List (ℕ × Bool)) (c : Check) (cs : List Check) (behind : Type 0) : Type 0 where
  pub same : r.0 ≡ c.number
  pub again : (n : ℕ) → is_listed n rs ≡ is_checked n cs
  pub means : Exactly (r.1 ≡ true) c.condition
  pub others : r.1 ≡ false → behind

pub row : {number : ℕ} {test : Bool} {rs : List (ℕ × Bool)} {cs : List Check} {condition behind : Type 0} → Exactly (test ≡ true) condition
    → ((n : ℕ) → is_listed n rs ≡ is_checked n cs) → (test ≡ false → behind) → Meant (number, test) rs (number when condition) cs behind
row means again others = record { same = refl; again = again; means = means; others = others }

abbrev pub AllMeant : List (ℕ × Bool) → List Check → Type 0
AllMeant [] [] = Unit {0}
AllMeant [] (c ∷ cs) = ⊥
AllMeant (r ∷ rs) [] = ⊥
AllMeant (r ∷ rs) (c ∷ cs) = Meant r rs c cs (AllMeant rs cs)

module _ (n : ℕ) where
  module _ (r : ℕ × Bool) (rs : List (ℕ × Bool)) (c : Check) (cs : List Check) (m : Meant r rs c cs (AllMeant rs cs)) where
    -- the test fails: so does the condition, and the rows behind count
    fails_words : (AllMeant rs cs → Given n rs → FirstIs n cs) → r.1 ≡ false → Given n rs → (c.condition → ⊥) × FirstIs n cs
    fails_words go f g = ((λ w. true≢false (sym (m.means.only_when w) ∙ f)), go (m.others f) g)

    words_by : (AllMeant rs cs → Given n rs → FirstIs n cs) → (own again : Bool) → GivenBy own again r (Given n rs) → FirstBy own again c.condition (FirstIs n cs)
    words_by go true true (inl t) = inl (m.means.when t)
    words_by go true true (inr g) = inr (fails_words go g.0 g.1)
    words_by go true false g = m.means.when g
    words_by go false again g = fails_words go g.0 g.1

    words_fail : (AllMeant rs cs → FirstIs n cs → Given n rs) → (c.condition → ⊥) → FirstIs n cs → (r.1 ≡ false) × Given n rs
    words_fail go never f = let fails = off r.1 (λ t. never (m.means.when t)) in (fails, go (m.others fails) f)

    given_by : (AllMeant rs cs → FirstIs n cs → Given n rs) → (own again : Bool) → FirstBy own again c.condition (FirstIs n cs) → GivenBy own again r (Given n rs)
    given_by go true true (inl w) = inl (m.means.only_when w)
    given_by go true true (inr f) = inr (words_fail go f.0 f.1)
    given_by go true false w = m.means.only_when w
    given_by go false again f = words_fail go f.0 f.1

  words : (rs : List (ℕ × Bool)) (cs : List Check) → AllMeant rs cs → Given n rs → FirstIs n cs
  words [] cs m g = absurd g
  words (r ∷ rs) [] m g = absurd m
  words (r ∷ rs) (c ∷ cs) m g = rw (sym m.same, sym (m.again n)) (words_by r rs c cs m (words rs cs) (eqb r.0 n) (is_listed n rs) g)

  given : (rs : List (ℕ × Bool)) (cs : List Check) → AllMeant rs cs → FirstIs n cs → Given n rs
  given rs [] m f = absurd f
  given [] (c ∷ cs) m f = absurd m
  given (r ∷ rs) (c ∷ cs) m f = given_by r rs c cs m (given rs cs) (eqb r.0 n) (is_listed n rs) (rw (sym m.same, sym (m.again n)) at f)

clear_none : (rs : List (ℕ × Bool)) (cs : List Check) → AllMeant rs cs → Clear rs → NoneHolds cs
clear_none [] [] m k = tt
clear_none [] (c ∷ cs) m k = absurd m
clear_none (r ∷ rs) [] m k = absurd m
clear_none (r ∷ rs) (c ∷ cs) m k = ((λ w. true≢false (sym (m.means.only_when w) ∙ k.0)), clear_none rs cs (m.others k.0) k.1)

none_clear : (rs : List (ℕ × Bool)) (cs : List Check) → AllMeant rs cs → NoneHolds cs → Clear rs
none_clear [] cs m k = tt
none_clear (r ∷ rs) [] m k = absurd m
none_clear (r ∷ rs) (c ∷ cs) m k = let fails = off r.1 (λ t. k.0 (m.means.when t)) in (fails, none_clear rs cs (m.others fails) k.1)

pub numbered : (rs : List (ℕ × Bool)) (cs : List Check) (number : ℕ) → are_numbered rs ≡ true → number ≡ first_of rs → AllMeant rs cs → Numbered number cs
numbered rs cs number positive is m = record {
  given = λ n h. record {
    when = λ e. words n rs cs m ((given_exactly rs n h).when (sym is ∙ e));
    only_when = λ f. is ∙ (given_exactly rs n h).only_when (given n rs cs m f);
  };
  accepted = record {
    when = λ e. clear_none rs cs m (clear rs positive (sym is ∙ e));
    only_when = λ k. is ∙ first_of_clear rs (none_clear rs cs m k);
  };
}

-- a number that is "given exactly when" the tests say is the first one's
pub first_exactly : (rs : List (ℕ × Bool)) (number : ℕ) → ((n : ℕ) → 0 < n → Exactly (number ≡ n) (Given n rs)) → number ≡ first_of rs
first_exactly rs number exactly =
    ⊎_elim (λ h. sym ((given_exactly rs number h).only_when ((exactly number h).when refl)))
    (λ none. ⊎_elim (λ h. (exactly (first_of rs) h).only_when ((given_exactly rs (first_of rs) h).when refl)) (λ z. omega arith) (split 0 (first_of rs))) (split 0 number)
