-- The flag book (02, A2): "It keeps 4,096 scenes by position in one sector of 512 used bytes". A sector is named by its start address.
use Rattle.std.specs.Prelude.{Bool, false, ◌||◌, List, [], ◌∷◌, ℕ, ◌+◌, ◌-◌, ◌/◌, ◌%◌, ◌^◌, eqb, get_or, set, take, drop}
use Rattle.std.specs.Int.Bits.{bit_and}
use Rattle.common.specs.Bits.{bit_at}
use Rattle.common.specs.Lists.{count_below}

-- ---- what it tells

-- "scene s is bit s modulo 8, lowest first, of byte s / 8; 1 is unread"
unfoldable pub is_read : List ℕ → ℕ → ℕ → Bool
is_read array sector scene = eqb (bit_at (get_or array (sector + scene / 8) 0) (scene % 8)) 0

-- "how many are"
unfoldable pub count_read : List ℕ → ℕ → ℕ
count_read array sector = count_below (is_read array sector) 4096

-- ---- what it wants

-- the 512 used bytes
unfoldable pub used_part : List ℕ → ℕ → List ℕ
used_part array sector = take 512 (drop sector array)

-- a scene turned read: its bit becomes 0, and nothing else changes
unfoldable pub marked_scene : ℕ → List ℕ → List ℕ
marked_scene scene used = set used (scene / 8) (bit_and (get_or used (scene / 8) 0) (255 - 2 ^ (scene % 8)))

-- "the marking of a list, repeats allowed": its scenes turned read, one after another
unfoldable pub marked : List ℕ → List ℕ → List ℕ
marked [] used = used
marked (scene ∷ scenes) used = marked scenes (marked_scene scene used)

-- the used bytes as they are to be
abbrev pub wanted_part : List ℕ → ℕ → List ℕ → List ℕ
wanted_part array sector scenes = marked scenes (used_part array sector)

-- whether a list has a scene
unfoldable pub is_listed : ℕ → List ℕ → Bool
is_listed scene [] = false
is_listed scene (first ∷ others) = eqb first scene || is_listed scene others
