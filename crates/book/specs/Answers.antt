-- What the book's calls answer (02, A2): "It tells whether a scene is read and how many are, and plans the marking of a list".
use Rattle.std.specs.Prelude.{Bool, List, [], ◌∷◌, ℕ}
use Rattle.common.specs.Bits.{bit}
use Rattle.state.specs.declared.State.{State}
use Rattle.state.specs.declared.Told.{Told}
use Rattle.state.specs.declared.Planned.{Planned}
use Rattle.state.specs.Answer.{told_of}
use Rattle.promises.specs.Promises.{PlansUnless}
use Rattle.book.specs.Book.{is_read, count_read, wanted_part}
use Rattle.book.specs.Refusals.{book_refusal}

-- "whether a scene is read": 1 or 0
unfoldable pub is_read_told : State → List ℕ → ℕ → ℕ → Told
is_read_told s array sector scene = told_of (book_refusal s array sector (scene ∷ [])) s (bit (is_read array sector scene) 1)

-- "and how many are"
unfoldable pub count_told : State → List ℕ → ℕ → Told
count_told s array sector = told_of (book_refusal s array sector []) s (count_read array sector)

-- A marking's answer, and the buffer before and after: the book's own refusal, or what the planner answers for the used bytes as they are to be.
abbrev pub Marks : State → Bool → List ℕ → ℕ → List ℕ → List ℕ → List ℕ → Planned → Type 0
Marks s wp array sector scenes buffer after r =
    PlansUnless (book_refusal s array sector scenes) s wp array sector (wanted_part array sector scenes) buffer after r
