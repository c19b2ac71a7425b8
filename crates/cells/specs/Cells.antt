-- The state as components' bytes.
use Rattle.std.specs.Prelude.{◌≡◌, List, [], ◌∷◌, ◌++◌, ℕ, zero, suc, ◌-◌, ◌*◌, ◌≤◌, length, get_or, take, drop, replicate}

-- 64 bytes a component; the code's constant stands in src/lib.rt
abbrev pub cell_size : ℕ
cell_size = 64

abbrev pub cell : List ℕ → ℕ → List ℕ
cell state k = take cell_size (drop (cell_size * k) state)

-- a queue's colours, front first
unfoldable pub queue_colours : List ℕ → List ℕ
queue_colours s = take (get_or s 0 0) (drop 1 s)

-- a queue's 64 bytes: the count, the colours front first, zeros
unfoldable pub cell_with : List ℕ → List ℕ
cell_with cs = length cs ∷ (cs ++ replicate (63 - length cs) 0)

-- the bytes of the first n components, where g k is component k's
unfoldable pub cells : (ℕ → List ℕ) → ℕ → List ℕ
cells g zero = []
cells g (suc n) = cells g n ++ g n

-- the bytes of a queue, as a good state has them
pub record Queue (s : List ℕ) : Type 0 where
  pub shape : s ≡ cell_with (queue_colours s)
  pub fits : length (queue_colours s) ≤ 63
