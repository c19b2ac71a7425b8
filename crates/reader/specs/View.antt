-- The numbers of what was read, and memory that nothing was read into yet.
use Rattle.std.specs.Prelude.{◌≡◌, Result, Ok, Err, replicate}
use Rattle.refusals.specs.declared.Refusal.{Refusal}
use Rattle.wiring.specs.Stages.{ends_size}
use Rattle.netlist.specs.declared.Size.{Size}
use Rattle.netlist.specs.declared.Fabric.{Fabric}
use Rattle.reader.specs.declared.Buffers.{Buffers}

abbrev pub size_of : Result Fabric Refusal → Result Size Refusal
size_of (Ok fabric) = Ok fabric.netlist.size
size_of (Err r) = Err r

abbrev pub IsClear : Buffers → Type 0
IsClear buffers = buffers.ends ≡ replicate ends_size 0
