-- What `reach` comes to, by what reading comes to. Assumes nothing.
use Rattle.std.proofs.Common.{◌≡◌, refl, ap, ◌∙◌, List, ℕ, ◌++◌, length, take, drop, Result, Ok, Err}
use mathlib.Core.Path.{ap₂}
use native.Mathlib.Nat.{zero-add}
use lib.Seq.{paste, take_at}
use Rattle.digits.specs.UpTo.{up_to}
use Rattle.digits.proofs.UpTo.{length-up_to, filled_is}
use Rattle.refusals.specs.Refusals.{first_refusal}
use Rattle.refusals.specs.Room.{room_for}
use Rattle.refusals.specs.declared.Refusal.{Refusal}
use Rattle.refusals.proofs.Refusals.{and_then, refusal-append}
use Rattle.record.specs.Table.{open_table}
use Rattle.netlist.specs.Netlist.{Netlist, netlist_of}
use Rattle.netlist.specs.declared.Size.{Size}
use Rattle.reach.specs.Rounds.{set_byte}
use Rattle.reach.specs.Known.{SetBytes}
use Rattle.reader.specs.File.{header_fields, size_in, netlist_in, file_tests}
use Rattle.reader.specs.Reading.{read_as, reading}
use Rattle.reaching.specs.Reach.{reach_tests, reach_verdict, sets_by, sets_after_reach}

-- reading, and then what else is tested
abbrev pub after : Result Size Refusal → (Size → Result Unit Refusal) → Result Unit Refusal
after (Ok s) f = f s
after (Err r) f = Err r

after_read : (v : Result Unit Refusal) (s : Size) (f : Size → Result Unit Refusal) → and_then v (f s) ≡ after (read_as v s) f
after_read (Ok _) s f = refl
after_read (Err r) s f = refl

pub reach_by : (file : List ℕ) (space : ℕ) → reach_verdict file space ≡ after (reading file) (λ s. room_for space s.channels)
unfolding reach_verdict reading netlist_in
reach_by file space = refusal-append (file_tests file) (reach_tests (netlist_in file) space) ∙ after_read (first_refusal (file_tests file)) (size_in (header_fields file)) (λ s. room_for space s.channels)

-- and what is written
abbrev pub sets_read : Result Size Refusal → List ℕ → List ℕ → List ℕ
sets_read (Ok s) file bytes = sets_by (room_for (length bytes) s.channels) (netlist_of s (open_table file s.components)) bytes
sets_read (Err r) file bytes = bytes

written : (v : Result Unit Refusal) (s : Size) (file bytes : List ℕ) → sets_by (and_then v (room_for (length bytes) s.channels)) (netlist_of s (open_table file s.components)) bytes ≡ sets_read (read_as v s) file bytes
written (Ok _) s file bytes = refl
written (Err r) s file bytes = refl

pub sets_by_reading : (file bytes : List ℕ) → sets_after_reach file bytes ≡ sets_read (reading file) file bytes
unfolding sets_after_reach reach_verdict reading netlist_in
sets_by_reading file bytes =
    ap (λ (v : Result Unit Refusal). sets_by v (netlist_in file) bytes) (refusal-append (file_tests file) (reach_tests (netlist_in file) (length bytes)))
    ∙ written (first_refusal (file_tests file)) (size_in (header_fields file)) file bytes

-- the sets of the channels; and the memory that they are copied into, with the rest as it was
pub copied : (f : Netlist) {sets : List ℕ} → SetBytes f sets
    → (take f.channels sets ≡ up_to f.channels (set_byte f)) × ((out after : List ℕ) → after ≡ paste out 0 sets f.channels → after ≡ up_to f.channels (set_byte f) ++ drop f.channels out)
copied f {sets} h = (taken, λ out after e. e ∙ ap₂ (λ (l : List ℕ) (k : ℕ). l ++ drop k out) taken (zero-add f.channels))
  where
    taken : take f.channels sets ≡ up_to f.channels (set_byte f)
    taken =
        ap (λ (l : List ℕ). take f.channels l) (filled_is (set_byte f) sets 0 f.channels h.long h.at)
        ∙ take_at (up_to f.channels (set_byte f)) (drop f.channels sets) f.channels (length-up_to (set_byte f) f.channels)
