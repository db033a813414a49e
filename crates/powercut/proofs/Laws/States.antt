-- The chips that a plan takes the given one through, and their states: at rest, in AAI, busy with a page or with a status write; and the state behind a
-- part of a plan.
-- Made by the builder and the setters, so that a further part or field stays as given.
-- Assumes nothing.
use mathlib.Core.Path.{◌≡◌, refl, ap, ap₂, ◌∙◌}
use mathlib.Core.Bool.{Bool, true, false}
use mathlib.Core.List.{List, [], ◌∷◌, ◌++◌}
use Prim.Native.Nat.{ℕ}
use Rattle.state.specs.declared.State.{State}
use Rattle.state.specs.State.{data_of, with_left, with_wel, with_armed, with_power_down, with_aai, with_bits, with_pending}
use Rattle.state.specs.Protection.{first_protected}
use Rattle.state.specs.Soundness.{Sound}
use Rattle.state.proofs.Laws.Soundness.{still_not_pending}
use Rattle.script.specs.Record.{Record}
use Rattle.frame.specs.Device.{Device}
use Rattle.powercut.specs.PowerCut.{state_after_plan}

-- a chip on the way of a plan: the given one, with other registers and another array
abbrev pub standing : Device → State → List ℕ → Device
standing given s array = record { state = s; array = array }

-- nothing going on
abbrev calmed : State → State
calmed s = with_pending (with_aai (with_power_down (with_left s 0) false) false 0) false 0

-- at rest at a level of protection, by WEL and armed
abbrev pub rest : State → ℕ → Bool → Bool → State
rest s bp wel armed = with_armed (with_wel (with_bits (calmed s) bp s.tb s.bpl) wel) armed

-- in AAI, with so much time left, to go on at an address
abbrev pub running : State → ℕ → ℕ → ℕ → State
running s bp left next = with_aai (with_left (rest s bp true false) left) true next

-- while a page is programmed
abbrev pub busy : State → ℕ → State
busy s bp = with_left (rest s bp true false) 1500

-- while a status write goes on, which is to set these bits
abbrev pub writing : State → ℕ → ℕ → State
writing s bp bits = with_pending (with_left (rest s bp true false) (data_of s).status_time) true bits

-- neither busy nor in AAI nor in power-down: the state is its own rest
pub is_rest : (s : State) → Sound s → s.left ≡ 0 → s.aai ≡ false → s.power_down ≡ false → s ≡ rest s s.bp s.wel s.armed
is_rest s h l a d =
    let none = still_not_pending s h l in
    ap (with_left s) l ∙ ap (with_power_down (with_left s 0)) d ∙ ap₂ (with_aai (with_power_down (with_left s 0) false)) a (h.next_0_without_aai a)
    ∙ ap₂ (with_pending (with_aai (with_power_down (with_left s 0) false) false 0)) none (h.bits_0_without_pending none)

-- ---- protection

-- the first protected address at a level
abbrev pub border : State → ℕ → ℕ
border s bp = first_protected (rest s bp false false)

-- ---- behind a part of a plan: WEL and armed fall with the first record, and nothing more does

pub ending_append : (rs ss : List Record) (s : State) → state_after_plan ss (state_after_plan rs s) ≡ state_after_plan (rs ++ ss) s
ending_append [] ss s = refl
ending_append (r ∷ rs) [] s = refl
ending_append (r ∷ rs) (q ∷ ss) s = refl

module _ (s : State) (bp : ℕ) where
  pub quiet_stays : (rs : List Record) → state_after_plan rs (rest s bp false false) ≡ rest s bp false false
  quiet_stays [] = refl
  quiet_stays (r ∷ rs) = refl

  pub still_at_rest : (wel armed : Bool) (rs : List Record) (P : State → Type 0) → ((wel armed : Bool) → P (rest s bp wel armed))
      → P (state_after_plan rs (rest s bp wel armed))
  still_at_rest wel armed [] P h = h wel armed
  still_at_rest wel armed (r ∷ rs) P h = h false false
