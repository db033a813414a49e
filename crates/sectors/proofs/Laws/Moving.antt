-- The records of a move, laid name by name: those passed stand at the front, and those left go behind them.
-- Assumes nothing.
use mathlib.Core.Path.{◌≡◌, refl, sym, ap, ◌∙◌}
use mathlib.Core.Bool.{Bool, true, false}
use mathlib.Core.List.{List, [], ◌∷◌, ◌++◌, append_assoc, append-nil}
use Prim.Native.Nat.{ℕ, suc, ◌+◌, ◌-◌, ◌≤◌, ◌<◌}
use native.Mathlib.Numerals.{add-one}
use native.Mathlib.Omega.{arith}
use lib.ListN.{length, length-append}
use Rattle.std.proofs.Common.{Some, None}
use Rattle.common.specs.Buffer.{Put}
use Rattle.common.proofs.Laws.Buffer.{put_none, left_start, left_turn, left_last}
use Rattle.names.specs.Records.{record_bytes, records_bytes, AllNames}
use Rattle.names.proofs.Laws.Front.{name_most}
use Rattle.names.proofs.Laws.Walk.{records_none, records_first, records_one, records_append}
use Rattle.namelist.specs.Listed.{listed, names_in, Good}
use Rattle.book.specs.Book.{is_read}
use Rattle.sectors.specs.Laid.{ReadPut}
use Rattle.sectors.specs.Moves.{read_names}
use Rattle.sectors.specs.Moves.{moved_names}
use Rattle.sectors.proofs.Laws.There.{read_names_none, read_names_first, read_names_later}

-- ---- laid bytes

-- a buffer stays as long as it was
put_long : (at : ℕ) (bytes before after : List ℕ) (next : ℕ) → at + length bytes ≤ length before → Put at bytes before after next → length after ≡ length before
put_long at bytes before after next h p =
    (left_turn bytes [] (left_start at (bytes ++ []) before (omega (arith, length-append bytes []))) p).long

put_behind : (xs ys before between after : List ℕ) (end next : ℕ) → length xs + length ys ≤ length before
    → Put 0 xs before between end → Put end ys between after next → Put 0 (xs ++ ys) before after next
put_behind xs ys before between after end next h p q =
    left_last (left_turn xs ys (left_start 0 (xs ++ ys) before (omega (arith, length-append xs ys))) p) q

-- ---- by turns

pub record Moving (array : List ℕ) (book : ℕ) (list : List ℕ) (marked : Bool) (before after : List ℕ) (left : List (List ℕ)) (scene end : ℕ) : Type 0 where
  pub done : List (List ℕ)
  pub good : AllNames left
  pub counted : scene + length left ≤ 4096
  pub names_are : moved_names array book list ≡ done ++ read_names (is_read array book) scene left
  pub put : Put 0 (records_bytes marked done) before after end
  pub same_long : length after ≡ length before
  pub inside : end ≤ 4096

pub moving_start : (array : List ℕ) (book : ℕ) (list : List ℕ) (marked : Bool) (before : List ℕ) (left : List (List ℕ)) → Good list → left ≡ names_in (listed list)
    → Moving array book list marked before before left 0 0
moving_start array book list marked before left good e = rw e record {
  done = [];
  good = good.good;
  counted = omega (arith, good.at_most);
  names_are = refl;
  put = rw (records_none marked) (put_none 0 before);
  same_long = refl;
  inside = omega arith;
}

module _ (array : List ℕ) (book : ℕ) (list : List ℕ) (marked : Bool) (before after : List ℕ) (left : List (List ℕ)) (scene end : ℕ)
    (m : Moving array book list marked before after left scene end) where
  module _ (name : List ℕ) (rest : List (List ℕ)) (left_is : left ≡ name ∷ rest) where
    pub moving_scene : scene < 4096
    moving_scene = omega (arith, m.counted, ap length left_is)

    good_first : AllNames (name ∷ rest)
    good_first = rw left_is at m.good

    pub moving_most : length name ≤ 32
    moving_most = name_most name good_first.0

    names_first : moved_names array book list ≡ m.done ++ read_names (is_read array book) scene (name ∷ rest)
    names_first = m.names_are ∙ ap (λ (ns : List (List ℕ)). m.done ++ read_names (is_read array book) scene ns) left_is

    counted_on : scene + 1 + length rest ≤ 4096
    counted_on = omega (arith, m.counted, ap length left_is)

    -- its scene is read
    module _ (read : is_read array book scene ≡ true) where
      names_read : moved_names array book list ≡ m.done ++ (name ∷ read_names (is_read array book) (suc scene) rest)
      names_read =
          names_first ∙ ap (λ (ns : List (List ℕ)). m.done ++ ns) (read_names_first (is_read array book) scene name rest read)

      pub moving_too_long : 4096 - end < 3 + length name → 4096 < length (records_bytes marked (moved_names array book list))
      moving_too_long over =
          let behind : List (List ℕ) = read_names (is_read array book) (suc scene) rest in
          omega (
            arith,
            m.inside,
            m.put.behind,
            ap (λ (ns : List (List ℕ)). length (records_bytes marked ns)) names_read,
            ap length (records_append marked m.done (name ∷ behind)),
            length-append (records_bytes marked m.done) (records_bytes marked (name ∷ behind)),
            ap length (records_first marked name behind),
            length-append (record_bytes marked name) (records_bytes marked behind),
          )

      pub moving_read : (next : ℕ) (laid : List ℕ) → 3 + length name ≤ 4096 - end → length after ≡ 4096 → Put end (record_bytes marked name) after laid next
          → Moving array book list marked before laid rest (scene + 1) next
      moving_read next laid room long p =
          let behind = m.put.behind in
          let records_are : records_bytes marked (m.done ++ (name ∷ [])) ≡ records_bytes marked m.done ++ record_bytes marked name =
          records_append marked m.done (name ∷ []) ∙ ap (λ (l : List ℕ). records_bytes marked m.done ++ l) (records_one marked name) in
          record {
            good = good_first.1;
            done = m.done ++ (name ∷ []);
            counted = counted_on;
            names_are =
                names_read ∙ sym (append_assoc m.done (name ∷ []) (read_names (is_read array book) (suc scene) rest))
                ∙ ap (λ (k : ℕ). (m.done ++ (name ∷ [])) ++ read_names (is_read array book) k rest) (sym (add-one scene));
            put = rw records_are (put_behind (records_bytes marked m.done) (record_bytes marked name) before after laid end next (omega (arith, m.inside, m.same_long)) m.put p);
            same_long = put_long end (record_bytes marked name) after laid next (omega (arith, m.inside)) p ∙ m.same_long;
            inside = omega (arith, m.inside, p.behind);
          }

    -- it is not
    pub moving_unread : is_read array book scene ≡ false → Moving array book list marked before after rest (scene + 1) end
    moving_unread unread = record {
      good = good_first.1;
      done = m.done;
      counted = counted_on;
      names_are =
          names_first ∙ ap (λ (ns : List (List ℕ)). m.done ++ ns) (read_names_later (is_read array book) scene name rest unread)
          ∙ ap (λ (k : ℕ). m.done ++ read_names (is_read array book) k rest) (sym (add-one scene));
      put = m.put;
      same_long = m.same_long;
      inside = m.inside;
    }

  pub moving_end : left ≡ [] → ReadPut array book list marked before after (Some end)
  moving_end e =
      let all : moved_names array book list ≡ m.done =
      m.names_are ∙ ap (λ (ns : List (List ℕ)). m.done ++ read_names (is_read array book) scene ns) e
      ∙ ap (λ (ns : List (List ℕ)). m.done ++ ns) (read_names_none (is_read array book) scene) ∙ append-nil m.done in
      record {
        laid = λ _. (end, refl, rw all m.put);
        too_long = λ over. absurd (omega (arith, over, ap (λ (ns : List (List ℕ)). length (records_bytes marked ns)) all, m.put.behind, m.inside));
      }

pub moved_too_long : (array : List ℕ) (book : ℕ) (list : List ℕ) (marked : Bool) (before after : List ℕ)
    → 4096 < length (records_bytes marked (moved_names array book list)) → ReadPut array book list marked before after None
moved_too_long array book list marked before after over = record { laid = λ fits. absurd (omega arith); too_long = λ _. refl }
