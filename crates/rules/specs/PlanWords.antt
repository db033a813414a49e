-- Step 2 of a plan (01, "Scripts and plans"), read off its records.
use Rattle.std.specs.Prelude.{◌≡◌, Bool, true, false, List, [], ◌∷◌, ◌⊎◌, ℕ, ◌+◌, ◌%◌, ◌≤◌}
use Rattle.common.specs.Lists.{Each}
use Rattle.script.specs.Record.{Record, frame, wait}
use Rattle.rules.specs.Sent.{Changing, InThreeBytes, Sent, sent, HeldBy, SentAsWanted}

-- "in runs of neighbours, rising": what records say, the words in their order. Inside a run the next word is the neighbour at an address;
-- outside, the next run begins at an address or behind it
pub data WordsSaid : Bool → ℕ → List Record → List Sent → Type 0 where
  -- "06; AD with its even address and first word; wait 7"
  begins : {from address high middle low even odd : ℕ} {rs : List Record} {words : List Sent} → from ≤ address → InThreeBytes address high middle low
      → WordsSaid true (address + 2) rs words
      → WordsSaid false from (frame (0x06 ∷ []) ∷ frame (0xad ∷ high ∷ middle ∷ low ∷ even ∷ odd ∷ []) ∷ wait 7 ∷ rs) (sent address (even ∷ odd ∷ []) ∷ words)
  -- "for each further word AD and wait 7"
  goes_on : {neighbour even odd : ℕ} {rs : List Record} {words : List Sent} → WordsSaid true (neighbour + 2) rs words
      → WordsSaid true neighbour (frame (0xad ∷ even ∷ odd ∷ []) ∷ wait 7 ∷ rs) (sent neighbour (even ∷ odd ∷ []) ∷ words)
  -- "04": the neighbour is none of the words, so another run begins behind it
  closes : {neighbour : ℕ} {rs : List Record} {words : List Sent} → WordsSaid false (neighbour + 2) rs words
      → WordsSaid true neighbour (frame (0x04 ∷ []) ∷ rs) words
  ends : {from : ℕ} → WordsSaid false from [] []

-- "008A: the aligned words holding a changing byte, in runs of neighbours, rising."
pub record WordsStep (array : List ℕ) (start : ℕ) (wanted : List ℕ) (rs : List Record) : Type 0 where
  pub words : List Sent
  pub in_runs : WordsSaid false 0 rs words
  pub aligned : Each (λ (x : Sent). x.address % 2 ≡ 0) words
  -- none without a change
  pub holding_a_change : Each (λ (x : Sent). Changing array start wanted x.address ⊎ Changing array start wanted (x.address + 1)) words
  -- none missing
  pub all_changes : (address : ℕ) → Changing array start wanted address → HeldBy words address
  -- "Words go as wanted, a byte outside the region as FF"
  pub as_wanted : Each (SentAsWanted start wanted) words
