-- What the rules say of a salvaged sector fixes it: from place 0 on, two such divisions go together.
-- Assumes nothing.
use mathlib.Core.Path.{◌≡◌, refl, sym, ap, ap₂, ◌∙◌}
use mathlib.Core.Bool.{Bool, true, false}
use mathlib.Core.List.{List, [], ◌∷◌, ◌++◌}
use mathlib.Core.Logic.{⊎_elim, ◌⊎◌, inl, inr}
use Prim.Native.Nat.{ℕ, zero, suc, ◌+◌, ◌-◌, ◌/◌, ◌%◌, ◌≤◌, ◌<◌}
use native.Mathlib.Omega.{arith}
use lib.Dec.{ltb}
use lib.ListN.{length, replicate}
use borrow.Author.Tests.{lt-ltb, le-ltb}
use Rattle.common.specs.Bits.{Bytes, bit}
use Rattle.common.specs.Lists.{within, Each}
use Rattle.common.proofs.Laws.Lists.{split}
use Rattle.common.proofs.Laws.Places.{within_yes, within_below, within_above}
use Rattle.salvage.specs.Pieces.{Stretch, list_bytes, used_length}
use Rattle.salvage.proofs.Laws.Used.{used_exactly}
use Rattle.rules.specs.Salvage.{GoodRecord, holders, BeginsFrom, Rising, bytes_of, Listed, SectorSalvaged}

-- ---- who holds a place

holders_own : (s : Stretch) (stretches : List Stretch) → 0 < s.count → 1 ≤ holders s.start (s ∷ stretches)
unfolding holders
holders_own s stretches h = rw (within_yes s.start s.count s.start (omega arith) (omega arith)) (omega arith)

-- not one that ends before it
holders_behind : (s : Stretch) (stretches : List Stretch) (k : ℕ) → s.start + s.count ≤ k → holders k (s ∷ stretches) ≡ holders k stretches
unfolding holders
holders_behind s stretches k h = rw (within_above s.start s.count k h) (omega arith)

-- none that begins behind it
holders_before : (between at k : ℕ) (stretches : List Stretch) → Rising between stretches → BeginsFrom at stretches → k < at → holders k stretches ≡ 0
unfolding holders
holders_before between at k [] rise from h = refl
holders_before between at k (s ∷ stretches) rise from h =
    rw (within_below s.start s.count k (omega arith))
    (omega (arith, holders_before between (s.start + s.count + between) k stretches rise.1 rise.0 (omega arith)))

-- the first begins here
abbrev StartsAt : ℕ → List Stretch → Type 0
StartsAt at [] = ⊥
StartsAt at (s ∷ stretches) = s.start ≡ at

first_holds : (between at : ℕ) (stretches : List Stretch) → Rising between stretches → BeginsFrom at stretches → 0 < holders at stretches → StartsAt at stretches
unfolding holders
first_holds between at [] rise from h = omega arith
first_holds between at (s ∷ stretches) rise from h =
    ⊎_elim
    (λ later.
    let others = holders_before between (s.start + s.count + between) at stretches rise.1 rise.0 (omega arith) in
    let own = rw (within_below s.start s.count at later) at h in
    absurd (omega (arith, own, others)))
    (λ here. omega (arith, here, from)) (split at s.start)

begins_sooner : (at sooner : ℕ) (stretches : List Stretch) → sooner ≤ at → BeginsFrom at stretches → BeginsFrom sooner stretches
begins_sooner at sooner [] h from = tt
begins_sooner at sooner (s ∷ stretches) h from = omega arith

-- ---- a division from a place on

abbrev Nothing : List ℕ → Stretch → Type 0
Nothing sector s = (k n : ℕ) → s.start ≤ k → k < s.start + s.count → GoodRecord sector k n → ⊥

record Rest (sector : List ℕ) (used at : ℕ) (records stretches : List Stretch) : Type 0 where
  good : Each (λ s. GoodRecord sector s.start s.count) records
  nothing : Each (Nothing sector) stretches
  in_order : Rising 0 records
  rising : Rising 1 stretches
  some : Each (λ s. 0 < s.count) stretches
  records_from_lem : BeginsFrom at records
  stretches_from_lem : BeginsFrom at stretches
  once : (k : ℕ) → at ≤ k → holders k records + holders k stretches + bit (within used (4096 - used) k) 1 ≡ bit (ltb k 4096) 1

good_some : {sector : List ℕ} {at n : ℕ} → GoodRecord sector at n → 0 < n
good_some g = omega (arith, g.length_is)

bit_most : (t : Bool) → bit t 1 ≤ 1
bit_most true = omega arith
bit_most false = omega arith

module _ (sector : List ℕ) (used : ℕ) (inside : used ≤ 4096) where
  -- in the final erased stretch, and behind the sector, nobody holds a place
  nobody : (at k : ℕ) (records stretches : List Stretch) → Rest sector used at records stretches → at ≤ k → used ≤ k
      → (holders k records ≡ 0) × (holders k stretches ≡ 0)
  nobody at k records stretches r from h =
      ⊎_elim
      (λ below.
      let e = rw (within_yes used (4096 - used) k h (omega arith), lt-ltb k 4096 below) at (r.once k from) in
      (omega (arith, e), omega (arith, e)))
      (λ behind.
      let e = rw (within_above used (4096 - used) k (omega arith), le-ltb k 4096 behind) at (r.once k from) in
      (omega (arith, e), omega (arith, e)))
      (split k 4096)

  records_end : (at : ℕ) (records stretches : List Stretch) → Rest sector used at records stretches → used ≤ at → records ≡ []
  records_end at [] stretches r h = refl
  records_end at (s ∷ records) stretches r h =
      let e = (nobody at s.start (s ∷ records) stretches r r.records_from_lem (omega (arith, r.records_from_lem))).0 in
      absurd (omega (arith, e, holders_own s records (good_some r.good.0)))

  stretches_end : (at : ℕ) (records stretches : List Stretch) → Rest sector used at records stretches → used ≤ at → stretches ≡ []
  stretches_end at records [] r h = refl
  stretches_end at records (s ∷ stretches) r h =
      let e = (nobody at s.start records (s ∷ stretches) r r.stretches_from_lem (omega (arith, r.stretches_from_lem))).1 in
      absurd (omega (arith, e, holders_own s stretches r.some.0))

  -- before it, a record or a stretch begins
  begins : (at : ℕ) (records stretches : List Stretch) → Rest sector used at records stretches → at < used → StartsAt at records ⊎ StartsAt at stretches
  begins at records stretches r h =
      let e = rw (within_below used (4096 - used) at h, lt-ltb at 4096 (omega arith)) at (r.once at (omega arith)) in
      ⊎_elim (λ some. inl (first_holds 0 at records r.in_order r.records_from_lem some))
      (λ none. inr (first_holds 1 at stretches r.rising r.stretches_from_lem (omega (arith, e)))) (split 0 (holders at records))

  -- a place is not held twice
  twice : (at k : ℕ) (records stretches : List Stretch) → Rest sector used at records stretches → at ≤ k → 1 ≤ holders k records → 1 ≤ holders k stretches → ⊥
  twice at k records stretches r from a b = omega (arith, r.once k from, a, b, bit_most (ltb k 4096))

  -- ---- a step on

  -- behind the record that begins here
  behind_record : (at : ℕ) (s : Stretch) (records stretches : List Stretch) → s.start ≡ at → Rest sector used at (s ∷ records) stretches
      → Rest sector used (at + s.count) records stretches
  unfolding holders
  behind_record at s records stretches e r = record {
    good = r.good.1;
    nothing = r.nothing;
    in_order = r.in_order.1;
    rising = r.rising;
    some = r.some;
    records_from_lem = begins_sooner (s.start + s.count + 0) (at + s.count) records (omega arith) r.in_order.0;
    stretches_from_lem = from stretches r;
    once = λ k h. rw (holders_behind s records k (omega arith)) at (r.once k (omega arith));
  }
    where
      from : (stretches : List Stretch) → Rest sector used at (s ∷ records) stretches → BeginsFrom (at + s.count) stretches
      from [] r = tt
      from (t ∷ stretches) r =
          ⊎_elim
          (λ less.
          let own : 1 ≤ holders t.start (s ∷ records) = rw (within_yes s.start s.count t.start (omega (arith, r.stretches_from_lem)) (omega arith)) (omega arith) in
          absurd (twice at t.start (s ∷ records) (t ∷ stretches) r r.stretches_from_lem own (holders_own t stretches r.some.0)))
          (λ more. more) (split t.start (at + s.count))

  -- behind the stretch that begins here
  behind_stretch : (at : ℕ) (s : Stretch) (records stretches : List Stretch) → s.start ≡ at → Rest sector used at records (s ∷ stretches)
      → Rest sector used (at + s.count) records stretches
  unfolding holders
  behind_stretch at s records stretches e r = record {
    good = r.good;
    nothing = r.nothing.1;
    in_order = r.in_order;
    rising = r.rising.1;
    some = r.some.1;
    records_from_lem = from records r;
    stretches_from_lem = begins_sooner (s.start + s.count + 1) (at + s.count) stretches (omega arith) r.rising.0;
    once = λ k h. rw (holders_behind s stretches k (omega arith)) at (r.once k (omega arith));
  }
    where
      from : (records : List Stretch) → Rest sector used at records (s ∷ stretches) → BeginsFrom (at + s.count) records
      from [] r = tt
      from (t ∷ records) r =
          ⊎_elim
          (λ less.
          let own : 1 ≤ holders t.start (s ∷ stretches) = rw (within_yes s.start s.count t.start (omega (arith, r.records_from_lem)) (omega arith)) (omega arith) in
          absurd (twice at t.start (t ∷ records) (s ∷ stretches) r r.records_from_lem (holders_own t records (good_some r.good.0)) own))
          (λ more. more) (split t.start (at + s.count))

  -- ---- two of them

  -- where one has a record the other has no stretch
  no_stretch : (at : ℕ) (s t : Stretch) → GoodRecord sector s.start s.count → s.start ≡ at → Nothing sector t → t.start ≡ at → 0 < t.count → ⊥
  no_stretch at s t g e nothing f some = nothing s.start s.count (omega arith) (omega arith) g

  -- no stretch is the shorter one: behind it a record would begin inside the other
  no_shorter : (at : ℕ) (s t : Stretch) (records stretches records₂ stretches₂ : List Stretch) → s.start ≡ at → t.start ≡ at
      → Rest sector used at records (s ∷ stretches) → Rest sector used at records₂ (t ∷ stretches₂) → s.count < t.count → ⊥
  unfolding holders
  no_shorter at s t records stretches records₂ stretches₂ e f a b less =
      ⊎_elim (λ before. found records (behind_stretch at s records stretches e a) (next before))
      (λ after. omega (arith, (nobody at k records₂ (t ∷ stretches₂) b (omega arith) after).1, own)) (split k used)
    where
      k : ℕ
      k = at + s.count

      own : 1 ≤ holders k (t ∷ stretches₂)
      own = rw (within_yes t.start t.count k (omega arith) (omega arith)) (omega arith)

      next : k < used → 0 < holders k records
      next before =
          let r = behind_stretch at s records stretches e a in
          let once = rw (within_below used (4096 - used) k before, lt-ltb k 4096 (omega arith)) at (r.once k (omega arith)) in
          let none = holders_before 1 (s.start + s.count + 1) k stretches a.rising.1 a.rising.0 (omega arith) in
          omega (arith, once, none)

      found : (records : List Stretch) → Rest sector used k records stretches → 0 < holders k records → ⊥
      found records r some = meet records r (first_holds 0 k records r.in_order r.records_from_lem some)
        where
          meet : (records : List Stretch) → Rest sector used k records stretches → StartsAt k records → ⊥
          meet [] r q = q
          meet (u ∷ records) r q = b.nothing.0 u.start u.count (omega (arith, q)) (omega (arith, q)) r.good.0

  same_count : (at : ℕ) (s t : Stretch) (records stretches records₂ stretches₂ : List Stretch) → s.start ≡ at → t.start ≡ at
      → Rest sector used at records (s ∷ stretches) → Rest sector used at records₂ (t ∷ stretches₂) → s.count ≡ t.count
  same_count at s t records stretches records₂ stretches₂ e f a b =
      ⊎_elim (λ less. absurd (no_shorter at s t records stretches records₂ stretches₂ e f a b less))
      (λ enough. ⊎_elim (λ more. absurd (no_shorter at t s records₂ stretches₂ records stretches f e b a more)) (λ most. omega arith) (split t.count s.count))
      (split s.count t.count)

  stretch_same : (s t : Stretch) → s.start ≡ t.start → s.count ≡ t.count → s ≡ t
  stretch_same s t e f i = record { start = e i; count = f i }

  -- what begins here is the same in both, and so are the others
  same_on : (at : ℕ) (records stretches records₂ stretches₂ : List Stretch)
      → Rest sector used at records stretches → Rest sector used at records₂ stretches₂
      → StartsAt at records ⊎ StartsAt at stretches → StartsAt at records₂ ⊎ StartsAt at stretches₂
      → ((n : ℕ) → 0 < n → (r t r₂ t₂ : List Stretch) → Rest sector used (at + n) r t → Rest sector used (at + n) r₂ t₂ → (r ≡ r₂) × (t ≡ t₂))
      → (records ≡ records₂) × (stretches ≡ stretches₂)
  same_on at [] stretches records₂ stretches₂ a b (inl p) q go = absurd p
  same_on at records [] records₂ stretches₂ a b (inr p) q go = absurd p
  same_on at (s ∷ records) stretches [] stretches₂ a b (inl p) (inl q) go = absurd q
  same_on at (s ∷ records) stretches (t ∷ records₂) stretches₂ a b (inl p) (inl q) go =
      let here : s.start ≡ t.start = p ∙ sym q in
      let long : t.count ≡ s.count = sym b.good.0.length_is ∙ rw (sym here) a.good.0.length_is in
      let others = go s.count (good_some a.good.0) records stretches records₂ stretches₂ (behind_record at s records stretches p a)
      (rw long at (behind_record at t records₂ stretches₂ q b)) in
      (ap₂ (λ (x : Stretch) (l : List Stretch). x ∷ l) (stretch_same s t here (sym long)) others.0, others.1)
  same_on at (s ∷ records) stretches records₂ [] a b (inl p) (inr q) go = absurd q
  same_on at (s ∷ records) stretches records₂ (t ∷ stretches₂) a b (inl p) (inr q) go =
      absurd (no_stretch at s t a.good.0 p b.nothing.0 q b.some.0)
  same_on at records (s ∷ stretches) [] stretches₂ a b (inr p) (inl q) go = absurd q
  same_on at records (s ∷ stretches) (t ∷ records₂) stretches₂ a b (inr p) (inl q) go =
      absurd (no_stretch at t s b.good.0 q a.nothing.0 p a.some.0)
  same_on at records (s ∷ stretches) records₂ [] a b (inr p) (inr q) go = absurd q
  same_on at records (s ∷ stretches) records₂ (t ∷ stretches₂) a b (inr p) (inr q) go =
      let here : s.start ≡ t.start = p ∙ sym q in
      let long : t.count ≡ s.count = sym (same_count at s t records stretches records₂ stretches₂ p q a b) in
      let others = go s.count a.some.0 records stretches records₂ stretches₂ (behind_stretch at s records stretches p a)
      (rw long at (behind_stretch at t records₂ stretches₂ q b)) in
      (others.0, ap₂ (λ (x : Stretch) (l : List Stretch). x ∷ l) (stretch_same s t here (sym long)) others.1)

  same_rest : (turns at : ℕ) (records stretches records₂ stretches₂ : List Stretch) → used ≤ turns + at
      → Rest sector used at records stretches → Rest sector used at records₂ stretches₂ → (records ≡ records₂) × (stretches ≡ stretches₂)
  same_rest zero at records stretches records₂ stretches₂ h a b = (
    records_end at records stretches a (omega arith) ∙ sym (records_end at records₂ stretches₂ b (omega arith)),
    stretches_end at records stretches a (omega arith) ∙ sym (stretches_end at records₂ stretches₂ b (omega arith)),
  )
  same_rest (suc turns) at records stretches records₂ stretches₂ h a b =
      ⊎_elim
      (λ before. same_on at records stretches records₂ stretches₂ a b (begins at records stretches a before) (begins at records₂ stretches₂ b before)
      (λ n some r t r₂ t₂ x y. same_rest turns (at + n) r t r₂ t₂ (omega arith) x y))
      (λ end. (
        records_end at records stretches a end ∙ sym (records_end at records₂ stretches₂ b end),
        stretches_end at records stretches a end ∙ sym (stretches_end at records₂ stretches₂ b end),
      )) (split at used)

-- ---- the whole sector

begins_anywhere : (stretches : List Stretch) → BeginsFrom 0 stretches
begins_anywhere [] = tt
begins_anywhere (s ∷ stretches) = omega arith

-- the list's bytes are those of its stretches
list_bytes_lem : (stretches : List Stretch) (list : List ℕ) → Bytes list → Listed list stretches → list ≡ list_bytes stretches
unfolding list_bytes
list_bytes_lem [] list b e = e
list_bytes_lem (s ∷ stretches) [] b l = absurd (omega (arith, l.0))
list_bytes_lem (s ∷ stretches) (w ∷ []) b l = absurd (omega (arith, l.0))
list_bytes_lem (s ∷ stretches) (w ∷ x ∷ []) b l = absurd (omega (arith, l.0))
list_bytes_lem (s ∷ stretches) (w ∷ x ∷ y ∷ []) b l = absurd (omega (arith, l.0))
list_bytes_lem (s ∷ stretches) (w ∷ x ∷ y ∷ z ∷ list) b l =
    let low : x < 256 = b 1 in
    let low₂ : z < 256 = b 3 in
    let start = l.1.0 in
    let count = l.1.1.0 in
    let a : w ≡ s.start / 256 = omega arith in
    let c : x ≡ s.start % 256 = omega arith in
    let d : y ≡ s.count / 256 = omega arith in
    let e : z ≡ s.count % 256 = omega arith in
    rw (a, c, d, e, list_bytes_lem stretches list (λ k. b (suc (suc (suc (suc k))))) l.1.1.1) refl

module _ (sector : List ℕ) (sized : length sector ≡ 4096) where
  used_is : {kept list : List ℕ} {size : ℕ} (s : SectorSalvaged sector kept size list) → s.used ≡ used_length sector
  used_is s = used_exactly sector s.used record {
    inside = omega (arith, s.inside, sized);
    erased = λ k from below. s.trailing k from (omega arith);
    last = λ k e q. s.no_more k (omega arith) q;
  }

  rest_of : {kept list : List ℕ} {size : ℕ} (s : SectorSalvaged sector kept size list) → Rest sector (used_length sector) 0 s.records s.stretches
  rest_of s = record {
    good = s.good;
    nothing = s.none_missed;
    in_order = s.in_order;
    rising = s.rising;
    some = s.none_empty;
    records_from_lem = begins_anywhere s.records;
    stretches_from_lem = begins_anywhere s.stretches;
    once = λ k h. rw (used_is s) at (s.covered k);
  }

  pub salvaged_only : (kept kept₂ list list₂ : List ℕ) (size size₂ : ℕ) → Bytes list → Bytes list₂
      → SectorSalvaged sector kept size list → SectorSalvaged sector kept₂ size₂ list₂ → (kept ≡ kept₂) × ((size ≡ size₂) × (list ≡ list₂))
  salvaged_only kept kept₂ list list₂ size size₂ b b₂ s t =
      let same = same_rest sector (used_length sector) (omega (arith, used_is s, s.inside)) 4096 0 _ _ _ _ (omega (arith, used_is s, s.inside)) (rest_of s) (rest_of t) in
      let long : size ≡ size₂ = s.size_is ∙ ap (λ (l : List Stretch). length (bytes_of sector l)) same.0 ∙ sym t.size_is in (
        s.written ∙ ap₂ (λ (l : List Stretch) (n : ℕ). bytes_of sector l ++ replicate (4096 - n) 0xff) same.0 long ∙ sym t.written,
        (
          long,
          list_bytes_lem s.stretches list b s.listed ∙ ap list_bytes same.1 ∙ sym (list_bytes_lem t.stretches list₂ b₂ t.listed),
        ),
      )
