-- The laws of `decode`: one record after another, the same records as were written, and the same bytes as were read.
-- Assumes nothing.
use mathlib.Core.Path.{◌≡◌, refl, sym, ap, ◌∙◌}
use mathlib.Core.List.{List, [], ◌∷◌, ◌++◌}
use Prim.Native.Nat.{ℕ, zero, suc, ◌≤◌, ◌<◌}
use native.Mathlib.Nat.{le_refl}
use native.Mathlib.Omega.{arith}
use lib.ListN.{length, drop}
use Rattle.common.specs.Bits.{Bytes}
use Rattle.common.proofs.Laws.Bits.{bytes_drop}
use Rattle.common.proofs.Laws.Turns.{turns_same}
use Rattle.script.specs.Record.{Record, AllFit, encode_record, encode, record_length, script_length, output_length}
use Rattle.script.specs.Decode.{Fault, Front, end, item, malformed, front, Decoded, records, bad_at, followed, decode_on, decode_within, decode}
use Rattle.script.proofs.Laws.Records.{output_bound}
use Rattle.script.proofs.Laws.Front.{front_encode, front_seen, front_item}

-- where the bytes are at most as many as the turns, more turns read the same
within_on : (n m : ℕ) (bytes : List ℕ) (f : Front) → front bytes ≡ f
    → ((rest : List ℕ) → length rest < length bytes → decode_within n rest ≡ decode_within m rest)
    → decode_on f (decode_within n) ≡ decode_on f (decode_within m)
within_on n m bytes end e go = refl
within_on n m bytes (item r rest) e go =
    let i = front_item bytes e in ap (followed r) (go rest (omega (arith, i.length_is, i.least)))
within_on n m bytes (malformed fault) e go = refl

within_end : (n : ℕ) → decode_within n [] ≡ records []
unfolding decode_within front
within_end zero = refl
within_end (suc n) = refl

within_same : (n m : ℕ) (bytes : List ℕ) → length bytes ≤ n → length bytes ≤ m → decode_within n bytes ≡ decode_within m bytes
unfolding decode_within
within_same =
    turns_same decode_within (λ n. within_end n ∙ sym (within_end 0)) (λ n m bytes go. within_on n m bytes (front bytes) refl go)

-- one record after another
pub decode_end : (bytes : List ℕ) → front bytes ≡ end → decode bytes ≡ records []
unfolding decode decode_within
decode_end bytes e = let none : bytes ≡ [] = rw e at (front_seen bytes) in rw none refl

pub decode_item : (bytes : List ℕ) {r : Record} {rest : List ℕ} → front bytes ≡ item r rest → decode bytes ≡ followed r (decode rest)
unfolding decode decode_within
decode_item [] {r} {rest} e = let i = front_item [] e in absurd (omega (arith, i.length_is, i.least))
decode_item (x ∷ bytes) {r} {rest} e =
    let i = front_item (x ∷ bytes) e in
    rw e (ap (followed r) (within_same (length bytes) (length rest) rest (omega (arith, i.length_is, i.least)) (le_refl (length rest))))

pub decode_malformed : (bytes : List ℕ) {fault : Fault} → front bytes ≡ malformed fault → decode bytes ≡ bad_at fault 0
unfolding decode decode_within front
decode_malformed [] {fault} e = let z : ◌≡◌ {A = ℕ} 0 1 = cc in absurd (omega arith)
decode_malformed (x ∷ bytes) {fault} e = rw e refl

-- no records: no bytes
pub decoded_none : (bytes : List ℕ) → decode bytes ≡ records [] → bytes ≡ []
decoded_none bytes e = by_front (front bytes) refl
  where
    followed_not : (r : Record) (d : Decoded) → followed r d ≡ records [] → ⊥
    followed_not r (records rs) h = let z : ◌≡◌ {A = ℕ} 0 1 = cc in omega arith
    followed_not r (bad_at fault offset) h = let z : ◌≡◌ {A = ℕ} 0 1 = cc in omega arith

    by_front : (f : Front) → front bytes ≡ f → bytes ≡ []
    by_front end q = rw q at (front_seen bytes)
    by_front (item r rest) q = absurd (followed_not r (decode rest) (sym (decode_item bytes q) ∙ e))
    by_front (malformed fault) q = let h = sym (decode_malformed bytes q) ∙ e in let z : ◌≡◌ {A = ℕ} 0 1 = cc in absurd (omega arith)

-- a first record: it stands at the front, and the others behind it
pub record FirstRead (bytes : List ℕ) (r : Record) (rs : List Record) : Type 0 where
  pub first : front bytes ≡ item r (drop (record_length r) bytes)
  pub others : decode (drop (record_length r) bytes) ≡ records rs

pub decoded_first : (bytes : List ℕ) {r : Record} {rs : List Record} → decode bytes ≡ records (r ∷ rs) → FirstRead bytes r rs
decoded_first bytes {r} {rs} e = by_front (front bytes) refl
  where
    first_read : (q : Record) (rest : List ℕ) → front bytes ≡ item q rest → (d : Decoded) → decode rest ≡ d → followed q d ≡ records (r ∷ rs)
        → FirstRead bytes r rs
    first_read q rest at (records ss) is h =
        let same : q ≡ r = cc in
        let behind : ss ≡ rs = cc in
        let rest_is : rest ≡ drop (record_length r) bytes = rw same at (front_item bytes at).rest_is in
        record { first = rw (same, rest_is) at at; others = rw (rest_is, behind) at is }
    first_read q rest at (bad_at fault offset) is h = let z : ◌≡◌ {A = ℕ} 0 1 = cc in absurd (omega arith)

    by_front : (f : Front) → front bytes ≡ f → FirstRead bytes r rs
    by_front end q = let h = sym (decode_end bytes q) ∙ e in let z : ◌≡◌ {A = ℕ} 0 1 = cc in absurd (omega arith)
    by_front (item s rest) q = first_read s rest q (decode rest) refl (sym (decode_item bytes q) ∙ e)
    by_front (malformed fault) q = let h = sym (decode_malformed bytes q) ∙ e in let z : ◌≡◌ {A = ℕ} 0 1 = cc in absurd (omega arith)

-- records that fit are read back from their script
pub decode_encode : (rs : List Record) → AllFit rs → decode (encode rs) ≡ records rs
unfolding encode front
decode_encode [] a = decode_end [] refl
decode_encode (r ∷ rs) a =
    decode_item (encode_record r ++ encode rs) (front_encode r (encode rs) a.0) ∙ ap (followed r) (decode_encode rs a.1)

-- bytes that are read are the script of their records, and these fit
pub encode_decode : (bytes : List ℕ) (rs : List Record) → Bytes bytes → decode bytes ≡ records rs → (encode rs ≡ bytes) × AllFit rs
unfolding encode
encode_decode bytes [] b e = (sym (decoded_none bytes e), tt)
encode_decode bytes (r ∷ rs) b e =
    let h = decoded_first bytes e in
    let first = (front_item bytes h.first).encoded b in
    let behind = encode_decode (drop (record_length r) bytes) rs (bytes_drop (record_length r) bytes b) h.others in
    (ap (λ (l : List ℕ). encode_record r ++ l) behind.0 ∙ sym first.0, (first.1, behind.1))

-- records that are read are as long as their bytes
pub decoded_length : (bytes : List ℕ) (rs : List Record) → decode bytes ≡ records rs → script_length rs ≡ length bytes
unfolding script_length
decoded_length bytes [] e = rw (decoded_none bytes e) refl
decoded_length bytes (r ∷ rs) e =
    let h = decoded_first bytes e in
    omega (arith, (front_item bytes h.first).length_is, decoded_length (drop (record_length r) bytes) rs h.others)

-- how much output so many bytes can hold
pub decoded_output : (bytes : List ℕ) (rs : List Record) → decode bytes ≡ records rs → output_length rs ≤ length bytes
decoded_output bytes rs e = omega (arith, output_bound rs, decoded_length bytes rs e)
