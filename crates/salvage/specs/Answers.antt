-- What the call answers (02, A9).
use Rattle.std.specs.Prelude.{◌≡◌, Bool, not, ◌||◌, List, [], ◌∷◌, ℕ, ◌<◌, eqb, ltb, length}
use Rattle.common.specs.Buffer.{written}
use Rattle.common.specs.Refusals.{wrong_array, buffer_too_short, first_of}
use Rattle.names.specs.Records.{padded}
use Rattle.salvage.specs.Pieces.{kept_bytes, dropped_bytes}
use Rattle.salvage.specs.declared.Salvaged.{Salvaged}

-- in the order checked: "2 if either sector slice isn't 4,096, then 10 if the list doesn't fit"
abbrev pub salvage_refusals : List ℕ → List ℕ → List ℕ → List (ℕ × Bool)
salvage_refusals sector kept dropped =
    (wrong_array, not (eqb (length sector) 4096) || not (eqb (length kept) 4096))
    ∷ (buffer_too_short, ltb (length dropped) (length (dropped_bytes sector)))
    ∷ []

unfoldable pub salvage_refusal : List ℕ → List ℕ → List ℕ → ℕ
salvage_refusal sector kept dropped = first_of (salvage_refusals sector kept dropped)

abbrev pub refused_salvage : ℕ → Salvaged
refused_salvage number = record { number = number; length = 0; kept = 0 }

-- the list's "length reported", in bytes, and the kept records'
abbrev pub salvaged_of : List ℕ → Salvaged
salvaged_of sector = record { number = 0; length = length (dropped_bytes sector); kept = length (kept_bytes sector) }

-- the answer, and both buffers before and after: a refusal changes no lent byte; else the records "from the front of a lent 4,096-byte buffer, FF after
-- them", and the list at the front of the other, "the rest of its buffer is untouched"
pub record Salvages (sector kept dropped kept_after dropped_after : List ℕ) (r : Salvaged) : Type 0 where
  pub refused : (number : ℕ) → 0 < number → salvage_refusal sector kept dropped ≡ number
      → (r ≡ refused_salvage number) × ((kept_after ≡ kept) × (dropped_after ≡ dropped))
  pub salvaged : salvage_refusal sector kept dropped ≡ 0
      → (r ≡ salvaged_of sector) × ((kept_after ≡ padded (kept_bytes sector)) × (dropped_after ≡ written 0 (dropped_bytes sector) dropped))
