-- What is promised of many proposals: the theorems that proofs/Many.antt proves.
use Rattle.std.specs.Prelude.{◌≡◌, List, ℕ, ◌+◌, ◌*◌, ◌/◌, ◌≤◌, ◌<◌, length, ℤ, pos}
use Rattle.refusals.specs.Refusals.{first_refusal, outcome_number, outcome_place}
use Rattle.refusals.specs.declared.Refusal.{Refusal}
use Rattle.refusals.specs.declared.Refusal.TheVariants.{ProposalLength, ResultSpace}
use Rattle.std.specs.Prelude.{Err, Ok}
use Rattle.reader.specs.File.{netlist_in, file_tests}
use Rattle.stepping.specs.Calls.{start_verdict, state_after_start}
use Rattle.checking.specs.Check.{check_verdict, check_constant, weights_after_check}
use Rattle.blocks.specs.Blocks.{block, blocks}
use Rattle.result.specs.Result.{result_size}
use Rattle.many.specs.Many.{many_verdict, table_after_many, bytes_after_many}
use Rattle.calls.specs.Calls.{Call, state_after_all}
use Rattle.demands.specs.Demands.{entry_of_bytes, entry_of, sum_read}

-- Each block gets the number, place, K and weights it would get alone, with space given; a refused block's K and weights are 0. The entries of its
-- result are counted from 0.
pub record Alone (fabric p : List ℕ) (entries : ℕ → ℤ) : Type 0 where
  pub number : (space : ℕ) → 8 * (netlist_in fabric).components ≤ space → entries 0 ≡ pos (outcome_number (check_verdict fabric p space))
  pub place : (space : ℕ) → 8 * (netlist_in fabric).components ≤ space → entries 1 ≡ pos (outcome_place (check_verdict fabric p space))
  pub constant : (space : ℕ) → 8 * (netlist_in fabric).components ≤ space → entries 2 ≡ check_constant fabric p space
  pub weights : (table : List ℤ) → check_verdict fabric p (length table) ≡ Ok tt → (u : ℕ) → u < 8 * (netlist_in fabric).components → entries (3 + u) ≡ entry_of (weights_after_check fabric p table) u
  pub zeros : (space : ℕ) → 8 * (netlist_in fabric).components ≤ space → (r : Refusal) → check_verdict fabric p space ≡ Err r → (u : ℕ) → u < 8 * (netlist_in fabric).components → entries (3 + u) ≡ pos 0

-- the entries of block b's result, in lent bytes and in a lent signed table after the call
abbrev pub block_bytes : List ℕ → List ℕ → List ℕ → ℕ → ℕ → ℤ
block_bytes fabric file bytes b i = entry_of_bytes (bytes_after_many fabric file bytes) (b * result_size (netlist_in fabric) + i)

abbrev pub block_entries : List ℕ → List ℕ → List ℤ → ℕ → ℕ → ℤ
block_entries fabric file table b i = entry_of (table_after_many fabric file table) (b * result_size (netlist_in fabric) + i)

abbrev pub EachAlone : Type 0
EachAlone = ((fabric file bytes : List ℕ) → many_verdict fabric file (length bytes / 8) ≡ Ok tt → (b : ℕ) → b < blocks file → Alone fabric (block file b) (block_bytes fabric file bytes b))
    × ((fabric file : List ℕ) (table : List ℤ) → many_verdict fabric file (length table) ≡ Ok tt → (b : ℕ) → b < blocks file → Alone fabric (block file b) (block_entries fabric file table b))

-- 11 and 23 do not occur inside a block.
abbrev pub NoSuchRefusal : Type 0
NoSuchRefusal = (fabric file : List ℕ) (space : ℕ) → many_verdict fabric file space ≡ Ok tt → (b : ℕ) → b < blocks file → (s : ℕ) → 8 * (netlist_in fabric).components ≤ s
    → (check_verdict fabric (block file b) s ≡ Err ProposalLength → ⊥) × (check_verdict fabric (block file b) s ≡ Err ResultSpace → ⊥)

-- For an accepted fabric, a block whose number is 0 is an accepted proposal: what is promised of those is promised of its terms,
abbrev pub BlockAccepted : Type 0
BlockAccepted = (fabric p : List ℕ) (entries : ℕ → ℤ) → first_refusal (file_tests fabric) ≡ Ok tt → Alone fabric p entries → entries 0 ≡ pos 0
    → (space : ℕ) → 8 * (netlist_in fabric).components ≤ space → check_verdict fabric p space ≡ Ok tt

-- and the sum of its entries, as a host adds it up, is its K after every list of calls
abbrev pub BlockSums : Type 0
BlockSums = (fabric p : List ℕ) (entries : ℕ → ℤ) → Alone fabric p entries → entries 0 ≡ pos 0
    → (state : List ℕ) → start_verdict fabric (length state) ≡ Ok tt → (calls : List Call)
    → sum_read (netlist_in fabric) (λ u. entries (3 + u)) (state_after_all fabric calls (state_after_start fabric state)) ≡ entries 2
