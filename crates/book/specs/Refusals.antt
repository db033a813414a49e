-- The refusals of the book's calls (02, A2): "15, a scene over 4,095 or a sector start that isn't a multiple of 4,096 inside the chip, after 2 and before
-- the planner's own".
use Rattle.std.specs.Prelude.{◌≡◌, Bool, true, false, not, ◌&&◌, ◌||◌, List, [], ◌∷◌, ◌++◌, ℕ, ◌%◌, eqb, ltb, length}
use Rattle.common.specs.Refusals.{state_not_sound, wrong_array, wrong_book, first_of}
use Rattle.state.specs.declared.State.{State}
use Rattle.state.specs.State.{data_of}
use Rattle.state.specs.Soundness.{is_sound}
use Rattle.promises.specs.Promises.{later_refusals}
use Rattle.book.specs.Book.{wanted_part}

-- "a scene over 4,095" is among them
unfoldable pub has_over : List ℕ → Bool
has_over [] = false
has_over (scene ∷ scenes) = ltb 4095 scene || has_over scenes

-- a sector start that is "a multiple of 4,096 inside the chip", by its size
unfoldable pub is_sector : ℕ → ℕ → Bool
is_sector size start = eqb (start % 4096) 0 && ltb start size

-- of every call, in the order checked, by the array's length and whether a scene is over
abbrev pub book_refusals : State → ℕ → ℕ → Bool → List (ℕ × Bool)
book_refusals s size sector over =
    (state_not_sound, not (is_sound s))  -- "state not sound, or chip number unknown"
    ∷ (wrong_array, not (eqb size (data_of s).size))  -- "array length isn't the chip's size"
    ∷ (wrong_book, over || not (is_sector (data_of s).size sector))
    ∷ []

-- of a call that is asked for these scenes; 0 where there is none
unfoldable pub book_refusal : State → List ℕ → ℕ → List ℕ → ℕ
book_refusal s array sector scenes = first_of (book_refusals s (length array) sector (has_over scenes))

-- of a marking: those, then the planner's 7, 9 and 10. Its 6 and 8 are not among them
abbrev pub mark_refusals : State → Bool → List ℕ → ℕ → List ℕ → ℕ → List (ℕ × Bool)
mark_refusals s wp array sector scenes room =
    book_refusals s (length array) sector (has_over scenes) ++ later_refusals s wp array sector (wanted_part array sector scenes) room

-- none of the book's own holds, in words
pub record Opened (s : State) (array : List ℕ) (sector : ℕ) (scenes : List ℕ) : Type 0 where
  pub sound : is_sound s ≡ true
  pub sized : length array ≡ (data_of s).size
  pub scenes_kept : has_over scenes ≡ false
  pub a_sector : is_sector (data_of s).size sector ≡ true
