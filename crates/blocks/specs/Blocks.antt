-- A file of proposals holds up to 64 blocks, each a 16-bit count of terms, high byte first, and its terms. Blocks are counted from 0.
use Rattle.std.specs.Prelude.{◌≡◌, Bool, cond, not, Result, Ok, Err, ◌||◌, List, [], ◌++◌, ℕ, zero, suc, ◌+◌, ◌*◌, ◌≤◌, ◌<◌, ltb, eqb, length, get_or, take, drop}
use Rattle.digits.specs.Least.{least}
use Rattle.refusals.specs.declared.Refusal.{Refusal}
use Rattle.refusals.specs.declared.Refusal.TheVariants.{BadBlocks}
use Rattle.flows.specs.Terms.{most_terms}

abbrev pub most_blocks : ℕ
most_blocks = 64

-- the count of terms that stands at byte i
unfoldable pub term_count : List ℕ → ℕ → ℕ
term_count file i = 256 * get_or file i 0 + get_or file (i + 1) 0

-- where block b begins: the first at 0, each further one behind the count and the terms of the one before
unfoldable pub block_start : List ℕ → ℕ → ℕ
block_start file zero = 0
block_start file (suc b) = block_start file b + 2 + 4 * term_count file (block_start file b)

-- the terms of block b
unfoldable pub block : List ℕ → ℕ → List ℕ
block file b = take (4 * term_count file (block_start file b)) (drop (block_start file b + 2) file)

-- block b would begin where the file has ended
abbrev pub past_end : List ℕ → ℕ → Bool
past_end file b = not (ltb (block_start file b) (length file))

-- how many blocks begin in the file; 65 where more than 64 do
unfoldable pub blocks : List ℕ → ℕ
blocks file = least (past_end file) (suc most_blocks)

-- 33 more than 64 blocks,
abbrev pub too_many : List ℕ → Bool
too_many file = ltb most_blocks (blocks file)

-- a count over 4,096,
unfoldable pub overlong : List ℕ → ℕ → Bool
overlong file b = ltb most_terms (term_count file (block_start file b))

abbrev pub some_overlong : List ℕ → Bool
some_overlong file = ltb (least (overlong file) (blocks file)) (blocks file)

-- or blocks that do not fill the file
abbrev pub not_filled : List ℕ → Bool
not_filled file = not (eqb (block_start file (blocks file)) (length file))

unfoldable pub bad_blocks : List ℕ → Bool
bad_blocks file = too_many file || some_overlong file || not_filled file

-- 33, or how many blocks fill the file
abbrev pub blocks_found : List ℕ → Result ℕ Refusal
blocks_found file = cond (bad_blocks file) (Err BadBlocks) (Ok (blocks file))

-- in file order: what g makes of each of the first n blocks, one after the other
unfoldable pub each_block : {X : Type 0} → (List ℕ → List X) → List ℕ → ℕ → List X
each_block g file zero = []
each_block g file (suc n) = each_block g file n ++ g (block file n)

-- ---- what proofs use: n blocks that fill the file
pub record Fills (file : List ℕ) (n : ℕ) : Type 0 where
  pub few : n ≤ most_blocks
  pub filled : block_start file n ≡ length file
  pub short : (b : ℕ) → b < n → term_count file (block_start file b) ≤ most_terms

-- a file that begins with a whole block,
pub record StartsWhole (file : List ℕ) : Type 0 where
  pub short : term_count file 0 ≤ most_terms
  pub inside : 2 + 4 * term_count file 0 ≤ length file

-- its terms, and what follows them
pub record IsSplit (file terms after : List ℕ) : Type 0 where
  pub first : terms ≡ take (4 * term_count file 0) (drop 2 file)
  pub rest : after ≡ drop (2 + 4 * term_count file 0) file

-- what is left of a file behind its first b blocks
abbrev pub behind : List ℕ → ℕ → List ℕ
behind file b = drop (block_start file b) file
