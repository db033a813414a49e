-- Nested pairs, written as a list: one fact before the others.
-- Assumes nothing.

infixr 5 ◌▹◌
pub ◌▹◌ : {A B : Type 0} → A → B → A × B
a ▹ b = (a, b)
