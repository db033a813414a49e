-- From a book to names: the laws of `read_names`, `is_past` and `wanted_move`.
-- Assumes nothing.
use mathlib.Core.Path.{◌≡◌, refl, sym, ap, ◌∙◌}
use mathlib.Core.Bool.{Bool, true, false, true≢false, ◌||◌}
use mathlib.Core.List.{List, [], ◌∷◌}
use mathlib.Core.Logic.{⊎_elim}
use Prim.Native.Nat.{ℕ, zero, suc, ◌+◌, ◌-◌, ◌≤◌, ◌<◌}
use native.Mathlib.Nat.{eq-or-lt_of_le}
use native.Mathlib.Numerals.{add-one}
use native.Mathlib.Omega.{arith}
use lib.ListN.{length, get_or}
use Rattle.std.specs.List.{list_any, range_with_len}
use Rattle.common.proofs.Laws.Booleans.{or_imp, or_none_l, or_none_r, imp_or, or_none_i}
use Rattle.common.proofs.Laws.Choice.{cond_elim, cases}
use Rattle.names.specs.Records.{AllNames}
use Rattle.names.specs.Search.{same_bytes, is_on}
use Rattle.names.proofs.Laws.Search.{same_refl, differ_exactly, on_first, on_exactly}
use Rattle.namelist.specs.Twice.{is_twice}
use Rattle.namelist.proofs.Laws.Twice.{twice_first}
use Rattle.sectors.specs.Images.{wanted_names}
use Rattle.sectors.specs.Moves.{read_names, any_read, is_past, wanted_move}

-- ---- the names of the read scenes

pub read_names_none : (read : ℕ → Bool) (scene : ℕ) → read_names read scene [] ≡ []
unfolding read_names
read_names_none read scene = refl

module _ (read : ℕ → Bool) (scene : ℕ) (name : List ℕ) (names : List (List ℕ)) where
  pub read_names_first : read scene ≡ true → read_names read scene (name ∷ names) ≡ name ∷ read_names read (suc scene) names
  unfolding read_names
  read_names_first e = rw e refl

  pub read_names_later : read scene ≡ false → read_names read scene (name ∷ names) ≡ read_names read (suc scene) names
  unfolding read_names
  read_names_later e = rw e refl

pub read_names_good : (read : ℕ → Bool) (scene : ℕ) (ns : List (List ℕ)) → AllNames ns → AllNames (read_names read scene ns)
unfolding read_names
read_names_good read scene [] good = tt
read_names_good read scene (name ∷ ns) good =
    let others = read_names_good read (suc scene) ns good.1 in cond_elim AllNames (read scene) (λ _. (good.0, others)) (λ _. others)

-- flags that agree on the scenes of the names
pub read_names_cong : (f g : ℕ → Bool) (scene : ℕ) (ns : List (List ℕ)) → ((s : ℕ) → scene ≤ s → s < scene + length ns → f s ≡ g s)
    → read_names f scene ns ≡ read_names g scene ns
unfolding read_names
read_names_cong f g scene [] same = refl
read_names_cong f g scene (name ∷ ns) same =
    rw (same scene (omega arith) (omega arith), read_names_cong f g (suc scene) ns (λ s h l. same s (omega arith) (omega arith))) refl

-- each is one of the names
pub read_names_on : (read : ℕ → Bool) (scene : ℕ) (ns : List (List ℕ)) (n : List ℕ) → is_on n (read_names read scene ns) ≡ true → is_on n ns ≡ true
read_names_on read scene [] n e = ap (is_on n) (sym (read_names_none read scene)) ∙ e
read_names_on read scene (name ∷ ns) n e =
    on_first n name ns
    ∙ cases (read scene)
    (λ t. let here = sym (on_first n name (read_names read (suc scene) ns)) ∙ ap (is_on n) (sym (read_names_first read scene name ns t)) ∙ e in
    imp_or (same_bytes n name) (is_on n ns) (λ f. read_names_on read (suc scene) ns n (or_imp (same_bytes n name) (is_on n (read_names read (suc scene) ns)) here f)))
    (λ t. imp_or (same_bytes n name) (is_on n ns) (λ _. read_names_on read (suc scene) ns n (ap (is_on n) (sym (read_names_later read scene name ns t)) ∙ e)))

read_names_off : (read : ℕ → Bool) (scene : ℕ) (ns : List (List ℕ)) (n : List ℕ) → is_on n ns ≡ false → is_on n (read_names read scene ns) ≡ false
read_names_off read scene ns n e =
    cases (is_on n (read_names read scene ns)) (λ t. absurd (true≢false (sym (read_names_on read scene ns n t) ∙ e))) (λ f. f)

-- where no name stands twice, a name is among them exactly if its scene is read
read_from : (read : ℕ → Bool) (scene : ℕ) (ns : List (List ℕ)) → is_twice ns ≡ false → (s : ℕ) → s < length ns
    → is_on (get_or ns s []) (read_names read scene ns) ≡ read (scene + s)
read_from read scene [] once s h = absurd (omega arith)
read_from read scene (name ∷ ns) once s h =
    let neither : is_on name ns || is_twice ns ≡ false = sym (twice_first name ns) ∙ once in
    at (or_none_l (is_on name ns) (is_twice ns) neither) (read_from read (suc scene) ns (or_none_r (is_on name ns) (is_twice ns) neither)) s h
  where
    at : is_on name ns ≡ false → ((s : ℕ) → s < length ns → is_on (get_or ns s []) (read_names read (suc scene) ns) ≡ read (suc scene + s))
        → (s : ℕ) → s < length (name ∷ ns) → is_on (get_or (name ∷ ns) s []) (read_names read scene (name ∷ ns)) ≡ read (scene + s)
    at new behind zero h =
        let here : scene + 0 ≡ scene = omega arith in
        rw here
        (cases (read scene)
        (λ t. ap (is_on name) (read_names_first read scene name ns t) ∙ on_first name name (read_names read (suc scene) ns) ∙ rw (same_refl name) (sym t))
        (λ f. ap (is_on name) (read_names_later read scene name ns f) ∙ read_names_off read (suc scene) ns name new ∙ sym f))
    at new behind (suc s) h =
        let there : scene + suc s ≡ suc scene + s = omega arith in
        let other : same_bytes (get_or ns s []) name ≡ false =
        (differ_exactly (get_or ns s []) name).only_when
        (λ e. true≢false (sym ((on_exactly name ns).only_when record { index = s; inside = omega arith; there = e }) ∙ new)) in
        rw there
        (cases (read scene)
        (λ t. ap (is_on (get_or ns s [])) (read_names_first read scene name ns t) ∙ on_first (get_or ns s []) name (read_names read (suc scene) ns) ∙ rw other (behind s (omega arith)))
        (λ f. ap (is_on (get_or ns s [])) (read_names_later read scene name ns f) ∙ behind s (omega arith)))

pub read_exactly : (read : ℕ → Bool) (ns : List (List ℕ)) → is_twice ns ≡ false → (s : ℕ) → s < length ns
    → is_on (get_or ns s []) (read_names read 0 ns) ≡ read s
read_exactly read ns once s h = let here : 0 + s ≡ s = omega arith in read_from read 0 ns once s h ∙ ap read here

-- ---- a read scene past the names

module _ (read : ℕ → Bool) (scene : ℕ) where
  -- a search at its turn: the scene is read, or it is not, or there is none left
  pub past_found : scene < 4096 → read scene ≡ true → is_past read scene ≡ true
  unfolding any_read
  past_found h e = let more : 4096 - scene ≡ suc (4095 - scene) = omega arith in rw (more, e) refl

  pub past_turn : scene < 4096 → read scene ≡ false → is_past read scene ≡ is_past read (scene + 1)
  unfolding any_read
  past_turn h e =
      let more : 4096 - scene ≡ suc (4095 - scene) = omega arith in
      let rest : 4096 - suc scene ≡ 4095 - scene = omega arith in
      rw (add-one scene, more, e, rest) refl

  pub past_end : 4096 ≤ scene → is_past read scene ≡ false
  unfolding any_read
  past_end h = let none : 4096 - scene ≡ 0 = omega arith in rw none refl

-- as a search among the scenes behind the names
any_listed : (read : ℕ → Bool) (scene n : ℕ) → any_read read scene n ≡ list_any read (range_with_len scene n)
unfolding any_read
any_listed read scene zero = refl
any_listed read scene (suc n) = rw (add-one scene) (ap (λ (t : Bool). read scene || t) (any_listed read (suc scene) n))

pub past_any : (read : ℕ → Bool) (names : ℕ) → is_past read names ≡ list_any read (range_with_len names (4096 - names))
past_any read names = any_listed read names (4096 - names)

any_none : (read : ℕ → Bool) (from n : ℕ) → any_read read from n ≡ false → (scene : ℕ) → from ≤ scene → scene < from + n → read scene ≡ false
unfolding any_read
any_none read from zero e scene h l = absurd (omega arith)
any_none read from (suc n) e scene h l =
    ⊎_elim
    (λ same. rw (← same) (or_none_l (read from) (any_read read (suc from) n) e))
    (λ later. any_none read (suc from) n (or_none_r (read from) (any_read read (suc from) n) e) scene later (omega arith))
    (eq-or-lt_of_le h)

pub past_none : (read : ℕ → Bool) (n : ℕ) → is_past read n ≡ false → (scene : ℕ) → n ≤ scene → scene < 4096 → read scene ≡ false
past_none read n e scene h l = any_none read n (4096 - n) e scene h (omega arith)

pub past_some : (read : ℕ → Bool) (n scene : ℕ) → n ≤ scene → scene < 4096 → read scene ≡ true → is_past read n ≡ true
past_some read n scene h l e = cases (is_past read n) (λ t. t) (λ f. absurd (true≢false (sym e ∙ past_none read n f scene h l)))

-- and where none is read none is found
any_clear : (read : ℕ → Bool) (from n : ℕ) → ((s : ℕ) → from ≤ s → s < from + n → read s ≡ false) → any_read read from n ≡ false
unfolding any_read
any_clear read from zero none = refl
any_clear read from (suc n) none =
    or_none_i (none from (omega arith) (omega arith)) (any_clear read (suc from) n (λ s h l. none s (omega arith) (omega arith)))

pub past_clear : (read : ℕ → Bool) (n : ℕ) → ((s : ℕ) → n ≤ s → s < 4096 → read s ≡ false) → is_past read n ≡ false
past_clear read n none = any_clear read n (4096 - n) (λ s h l. none s h (omega arith))

-- equal flags have equal read scenes
any_cong : (f g : ℕ → Bool) (from n : ℕ) → ((s : ℕ) → from ≤ s → s < from + n → f s ≡ g s) → any_read f from n ≡ any_read g from n
unfolding any_read
any_cong f g from zero same = refl
any_cong f g from (suc n) same =
    rw (same from (omega arith) (omega arith), any_cong f g (suc from) n (λ s h l. same s (omega arith) (omega arith))) refl

pub past_cong : (f g : ℕ → Bool) (n : ℕ) → ((s : ℕ) → s < 4096 → f s ≡ g s) → is_past f n ≡ is_past g n
past_cong f g n same = any_cong f g n (4096 - n) (λ s h l. same s (omega arith))

-- ---- what a move wants

pub move_wants : (image : List ℕ) (read : ℕ → Bool) (ns : List (List ℕ)) → wanted_move image read ns ≡ wanted_names image [] (read_names read 0 ns)
unfolding wanted_move
move_wants image read ns = refl
