-- Block protection (000, Table 2; 004, Table 3): the addresses from the first protected one up.
use Rattle.std.specs.Prelude.{cond, List, [], ◌∷◌, ℕ, ◌%◌, eqb, get_or}
use Rattle.state.specs.declared.State.{State}
use Rattle.state.specs.State.{data_of}

-- the F25L008A, by level BP2 BP1 BP0; its size where nothing is protected
abbrev pub first_protected_by_level : List ℕ
first_protected_by_level =
    0x10_0000  -- 000: nothing
    ∷ 0x0f_0000  -- 001: upper 1/16
    ∷ 0x0e_0000  -- 010: upper 1/8
    ∷ 0x0c_0000  -- 011: upper 1/4
    ∷ 0x08_0000  -- 100: upper 1/2
    ∷ 0  -- 101 to 111: everything
    ∷ 0
    ∷ 0
    ∷ []

-- "everything if BP0 or BP1 is 1, else nothing; BP2 and TB don't matter" (the F25L05PA)
unfoldable pub first_protected : State → ℕ
first_protected s =
    cond (data_of s).graded (get_or first_protected_by_level s.bp 0)
    (cond (eqb (s.bp % 4) 0) (data_of s).size 0)
