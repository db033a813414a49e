-- Opcode by opcode (01, "Frames": the table, and what stands below it; 02, A4). Each row is of an accepted frame with that opcode.
use Rattle.std.specs.Prelude.{◌≡◌, Bool, true, false, ◌&&◌, not, cond, List, [], ◌∷◌, ◌⊎◌, ℕ, ◌+◌, ◌-◌, ◌*◌, ◌/◌, ◌%◌, leb, ltb, eqb, length, get_or, drop, Option, Some, None}
use Rattle.std.specs.Int.Bits.{bit_and}
use Rattle.common.specs.Lists.{within}
use Rattle.state.specs.declared.State.{State}
use Rattle.state.specs.State.{with_left, with_wel, with_armed, with_power_down, with_aai, with_bits, with_pending}
use Rattle.state.specs.Protection.{first_protected}
use Rattle.state.specs.Soundness.{is_busy}
use Rattle.state.specs.Status.{status_of}
use Rattle.command.specs.Fits.{Resting}
use Rattle.effect.specs.Page.{lay_down, blank}
use Rattle.frame.specs.Device.{Device}
use Rattle.frame.specs.Line.{Line}
use Rattle.rules.specs.Chips.{by_chip, bytes_of}
use Rattle.rules.specs.Status.{level_in, is_set, bits_in}
use Rattle.rules.specs.Frames.{opcode, Change, unchanged, Does, silent, disarmed, Ignored, is_among, opcodes_008a, opcodes_05pa}

-- ---- the words of the rows

abbrev pub size_of : Device → ℕ
size_of d = bytes_of d.state.chip

-- "Addresses have three bytes, high byte first, taken modulo the chip's size."
abbrev pub address_in : List ℕ → Device → ℕ
address_in f d = (get_or f 1 0 * 65536 + get_or f 2 0 * 256 + get_or f 3 0) % size_of d

-- "Sectors are 4,096 bytes, blocks 65,536."
abbrev pub sector_in : List ℕ → Device → ℕ
sector_in f d = address_in f d / 4096 * 4096

abbrev pub block_in : List ℕ → Device → ℕ
block_in f d = address_in f d / 65536 * 65536

-- "address bit 0 is dropped"
abbrev pub word_in : List ℕ → Device → ℕ
word_in f d = address_in f d / 2 * 2

-- nothing before byte n, and from there on these bytes
abbrev pub bytes_from : ℕ → (ℕ → ℕ) → ℕ → Option ℕ
bytes_from n bytes i = cond (ltb i n) None (Some (bytes (i - n)))

-- "bytes 1 to 3": three bytes from byte 1 on, and nothing behind them
abbrev pub three_bytes : ℕ → ℕ → ℕ → ℕ → Option ℕ
three_bytes a b c i = cond (eqb i 1) (Some a) (cond (eqb i 2) (Some b) (cond (eqb i 3) (Some c) None))

-- "array from the address up, wrapping at the top"
abbrev pub array_up : List ℕ → Device → ℕ → ℕ
array_up f d j = get_or d.array ((address_in f d + j) % size_of d) 0

-- "need WEL 1 and an unprotected target": n bytes from an address on
abbrev pub is_open : Device → ℕ → ℕ → Bool
is_open d address n = d.state.wel && leb (address + n) (first_protected d.state)

-- "all FF": n bytes from an address on
abbrev pub erases : ℕ → ℕ → Change
erases address n = record { touched = within address n; becomes = λ k x. 0xff }

-- "Programming sets each byte to old AND new": n bytes from an address on, with the bytes of the frame from byte i on
abbrev pub programs : ℕ → ℕ → ℕ → List ℕ → Change
programs address n i f = record { touched = within address n; becomes = λ k x. bit_and x (get_or f (i + (k - address)) 0) }

-- "Page: data byte j goes to offset (address + j) modulo 256 of the page; a later byte for the same offset replaces the earlier."
abbrev pub programs_page : ℕ → List ℕ → Change
programs_page address sent = record {
  touched = λ k. eqb (k / 256) (address / 256) && ltb ((k + (256 - address % 256)) % 256) (length sent);
  becomes = λ k x. bit_and x (lay_down blank address sent (k % 256));
}

-- "set left"
abbrev pub busy_for : ℕ → Device → State
busy_for time d = with_left (disarmed d) time

-- the registers behind a word: "AAI becomes 1, next the address after"
abbrev pub behind_word : ℕ → Device → State
behind_word address d = with_aai (busy_for 7 d) true (address + 2)

-- "Status write is taken only if armed, and not if BPL is 1 while WP is low": its byte behind it
abbrev pub is_status_taken : Bool → List ℕ → Device → Bool
is_status_taken wp f d = eqb (length f) 2 && (d.state.armed && not (d.state.bpl && not wp))

-- on the 008A "it sets BP and BPL .. from its byte, and clears WEL"; "It takes no time."
abbrev pub status_written : ℕ → Device → State
status_written byte d = with_wel (with_bits (disarmed d) (level_in byte) false (is_set byte 7)) false

-- "On the 05PA it is a write cycle: BUSY reads 1, WEL stays 1 until the end, the new bits are seen only then" (02, A4); 004's T_W: 5,000
abbrev pub status_begun : ℕ → Device → State
status_begun byte d = with_pending (busy_for 5000 d) true (bits_in byte)

-- what a frame does if it is taken; "Frames with a wrong length are ignored", and so is one that lacks what it needs
pub record TakenIf (wp : Bool) (f : List ℕ) (d : Device) (line : Line) (taken : Bool) (does : Type 0) : Type 0 where
  pub then : taken ≡ true → does
  pub else : taken ≡ false → Ignored wp f d line

-- ---- the rows

-- 05 in every mode but power-down, AB in power-down and at rest; the others at rest
pub record Reads (wp : Bool) (f : List ℕ) (d : Device) (line : Line) : Type 0 where
  -- 05, any length: "bytes 1 on: status"
  pub read_status : d.state.power_down ≡ false → opcode f ≡ 0x05
      → Does wp f d line (bytes_from 1 (λ j. status_of d.state)) (disarmed d) unchanged
  -- 03, any length: "bytes 4 on: array from the address up, wrapping at the top"
  pub read : Resting d.state → opcode f ≡ 0x03 → Does wp f d line (bytes_from 4 (array_up f d)) (disarmed d) unchanged
  -- 0B, any length: "the same from byte 5"
  pub fast_read_lem : Resting d.state → opcode f ≡ 0x0b → Does wp f d line (bytes_from 5 (array_up f d)) (disarmed d) unchanged
  -- 9F, any length: "bytes 1 to 3: JEDEC"; "9F's FF from byte 4" is not driven (02, A10)
  pub jedec : Resting d.state → opcode f ≡ 0x9f
      → Does wp f d line (three_bytes 0x8c (by_chip d.state.chip 0x20 0x30) (by_chip d.state.chip 0x14 0x10)) (disarmed d) unchanged
  -- AB, any length: "signature, 008A from byte 1, 05PA from byte 4; 05PA leaves power-down"
  pub signature : d.state.left ≡ 0 → d.state.aai ≡ false → opcode f ≡ 0xab
      → Does wp f d line (bytes_from (by_chip d.state.chip 1 4) (λ j. by_chip d.state.chip 0x13 0x05)) (with_power_down (disarmed d) false) unchanged
  -- 90, any length: "bytes 4 on: 8C and device ID by turns, device ID first if address bit 0 is 1"
  pub identity : Resting d.state → opcode f ≡ 0x90
      → Does wp f d line (bytes_from 4 (λ j. cond (eqb ((address_in f d + j) % 2) 0) 0x8c (by_chip d.state.chip 0x13 0x05))) (disarmed d) unchanged

-- the registers alone
pub record Switches (wp : Bool) (f : List ℕ) (d : Device) (line : Line) : Type 0 where
  -- 06, 1 byte: "WEL 1, armed"
  pub write_enable : Resting d.state → opcode f ≡ 0x06
      → TakenIf wp f d line (eqb (length f) 1) (Does wp f d line silent (with_armed (with_wel d.state true) true) unchanged)
  -- 04, 1 byte: "WEL, AAI, next 0"; in AAI too
  pub write_disable : d.state.left ≡ 0 → d.state.power_down ≡ false → opcode f ≡ 0x04
      → TakenIf wp f d line (eqb (length f) 1) (Does wp f d line silent (with_aai (with_wel (disarmed d) false) false 0) unchanged)
  -- 50, 1 byte: "armed (008A only)"
  pub enable_status : Resting d.state → d.state.chip ≡ 8 → opcode f ≡ 0x50
      → TakenIf wp f d line (eqb (length f) 1) (Does wp f d line silent (with_armed d.state true) unchanged)
  -- 01, 2 bytes: "status write"
  pub write_status_lem : Resting d.state → opcode f ≡ 0x01
      → TakenIf wp f d line (is_status_taken wp f d)
      (Does wp f d line silent (by_chip d.state.chip (status_written (get_or f 1 0) d) (status_begun (get_or f 1 0) d)) unchanged)
  -- B9, 1 byte: "power-down (05PA)"
  pub power_down_lem : Resting d.state → d.state.chip ≡ 5 → opcode f ≡ 0xb9
      → TakenIf wp f d line (eqb (length f) 1) (Does wp f d line silent (with_power_down (disarmed d) true) unchanged)

-- "Program and erase need WEL 1 and an unprotected target .. They change the array at once and set left"
pub record Writes (wp : Bool) (f : List ℕ) (d : Device) (line : Line) : Type 0 where
  -- 20, 4 bytes: "sector .. all FF"; "sector 90,000"
  pub sector_erase_lem : Resting d.state → opcode f ≡ 0x20
      → TakenIf wp f d line (eqb (length f) 4 && is_open d (sector_in f d) 4096)
      (Does wp f d line silent (busy_for 90000 d) (erases (sector_in f d) 4096))
  -- D8, 4 bytes: "block erase: all FF"; "block 1,000,000 or 750,000 (05PA)"
  pub block_erase_lem : Resting d.state → opcode f ≡ 0xd8
      → TakenIf wp f d line (eqb (length f) 4 && is_open d (block_in f d) 65536)
      (Does wp f d line silent (busy_for (by_chip d.state.chip 1000000 750000) d) (erases (block_in f d) 65536))
  -- 60 and C7, 1 byte: "chip erase needs BP 000 on the 008A and nothing protected on the 05PA"; "chip 8,000,000 or 1,000,000"
  pub chip_erase_lem : Resting d.state → (op : ℕ) → (op ≡ 0x60) ⊎ (op ≡ 0xc7) → opcode f ≡ op
      → TakenIf wp f d line
      (eqb (length f) 1 && (d.state.wel && by_chip d.state.chip (eqb d.state.bp 0) (eqb (first_protected d.state) 65536)))
      (Does wp f d line silent (busy_for (by_chip d.state.chip 8000000 1000000) d) (erases 0 (size_of d)))
  -- 02 on the 008A, 5 bytes: "one byte"; "byte or word 7"
  pub byte_program_lem : Resting d.state → d.state.chip ≡ 8 → opcode f ≡ 0x02
      → TakenIf wp f d line (eqb (length f) 5 && is_open d (address_in f d) 1)
      (Does wp f d line silent (busy_for 7 d) (programs (address_in f d) 1 4 f))
  -- 02 on the 05PA, "5 or more": "page of 256"; "page 1,500"
  pub page_program_lem : Resting d.state → d.state.chip ≡ 5 → opcode f ≡ 0x02
      → TakenIf wp f d line (leb 5 (length f) && is_open d (address_in f d) 1)
      (Does wp f d line silent (busy_for 1500 d) (programs_page (address_in f d) (drop 4 f)))
  -- AD on the 008A, 6 bytes: "address bit 0 is dropped, the word goes to that address and the next, AAI becomes 1, next the address after"
  pub first_word : Resting d.state → d.state.chip ≡ 8 → opcode f ≡ 0xad
      → TakenIf wp f d line (eqb (length f) 6 && is_open d (word_in f d) 2)
      (Does wp f d line silent (behind_word (word_in f d) d) (programs (word_in f d) 2 4 f))
  -- "in AAI only 3": "AD with 3 bytes goes on at next"
  pub next_word : d.state.left ≡ 0 → d.state.aai ≡ true → opcode f ≡ 0xad
      → TakenIf wp f d line (eqb (length f) 3 && is_open d d.state.next 2)
      (Does wp f d line silent (behind_word d.state.next d) (programs d.state.next 2 1 f))

-- ---- no frame is left without a rule

-- which rule an accepted frame falls under, by what that rule asks: those of `FrameRules`, then the rows
pub data Ruled (f : List ℕ) (d : Device) : Type 0 where
  unknown : is_among (opcode f) (by_chip d.state.chip opcodes_008a opcodes_05pa) ≡ false → Ruled f d
  while_busy : is_busy d.state ≡ true → is_among (opcode f) (0x05 ∷ []) ≡ false → Ruled f d
  in_aai_lem : d.state.aai ≡ true → is_among (opcode f) (0xad ∷ 0x05 ∷ 0x04 ∷ []) ≡ false → Ruled f d
  in_power_down : d.state.power_down ≡ true → is_among (opcode f) (0xab ∷ []) ≡ false → Ruled f d
  read_status : d.state.power_down ≡ false → opcode f ≡ 0x05 → Ruled f d
  signature : d.state.left ≡ 0 → d.state.aai ≡ false → opcode f ≡ 0xab → Ruled f d
  write_disable : d.state.left ≡ 0 → d.state.power_down ≡ false → opcode f ≡ 0x04 → Ruled f d
  next_word : d.state.left ≡ 0 → d.state.aai ≡ true → opcode f ≡ 0xad → Ruled f d
  -- at rest: the opcodes of both chips, then those of one, and 02, which is another on each
  at_rest : Resting d.state → is_among (opcode f) (0x03 ∷ 0x0b ∷ 0x9f ∷ 0x90 ∷ 0x06 ∷ 0x01 ∷ 0x20 ∷ 0xd8 ∷ 0x60 ∷ 0xc7 ∷ []) ≡ true → Ruled f d
  on_008a_lem : Resting d.state → d.state.chip ≡ 8 → is_among (opcode f) (0x50 ∷ 0xad ∷ 0x02 ∷ []) ≡ true → Ruled f d
  on_05pa_lem : Resting d.state → d.state.chip ≡ 5 → is_among (opcode f) (0xb9 ∷ 0x02 ∷ []) ≡ true → Ruled f d
