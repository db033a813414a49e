-- Records laid into a buffer one behind the other.
-- Assumes nothing.
use mathlib.Core.List.{List, [], ◌∷◌}
use Prim.Native.Nat.{ℕ, ◌+◌, ◌≤◌}
use lib.ListN.{length}
use Rattle.script.specs.Record.{Record, encode_record, encode}
use Rattle.common.specs.Buffer.{Put}
use Rattle.common.proofs.Laws.Buffer.{Left, left_room, left_turn, left_none}

module _ (r : Record) (rs : List Record) {at at₀ : ℕ} {buffer all buffer₀ : List ℕ} (l : Left at (encode (r ∷ rs)) buffer at₀ all buffer₀) where
  pub record_room : at + length (encode_record r) ≤ length buffer
  unfolding encode
  record_room = left_room (encode_record r) (encode rs) l

  pub record_turn : {next : ℕ} {after : List ℕ} → Put at (encode_record r) buffer after next → Left next (encode rs) after at₀ all buffer₀
  unfolding encode
  record_turn p = left_turn (encode_record r) (encode rs) l p

pub records_done : {at at₀ : ℕ} {buffer all buffer₀ : List ℕ} → Left at (encode []) buffer at₀ all buffer₀ → Put at₀ all buffer₀ buffer at
unfolding encode
records_done l = left_none l
