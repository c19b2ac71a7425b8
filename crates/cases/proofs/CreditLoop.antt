-- The credit loop, computed from the definitions. Assumes nothing.
use mathlib.Core.Path.{◌≡◌, refl, subst}
use mathlib.Core.List.{List, [], ◌∷◌}
use Prim.Native.Nat.{ℕ}
use native.Mathlib.Omega.{arith}
use lib.ListN.{length, take}
use Rattle.digits.specs.Least.{least}
use Rattle.digits.specs.Count.{count}
use Rattle.order.specs.Graph.{any, walks, has_circle}
use Rattle.record.specs.Record.{record_row, record_pad, record_bytes}
use Rattle.record.specs.Table.{open_table, records}
use Rattle.record.proofs.Table.{length-rows}
use Rattle.component.specs.Kind.{kind_of, port_of, port_use, uses_first_map, uses_second_map, uses_mask, is_source, is_queue}
use Rattle.component.specs.Row.{row_ok}
use Rattle.wiring.specs.Ends.{first_unmatched}
use Rattle.wiring.specs.Signals.{depends_on, near_of, end_of, dependence}
use Rattle.wiring.specs.Stages.{Kinds}
use Rattle.netlist.specs.Netlist.{netlist, netlist_of, sized}
use Rattle.netlist.specs.Accepted.{AcceptedFabric}
use Rattle.reader.specs.File.{header_fields, first_bad_record}
use Rattle.reader.specs.Reading.{reading}
use Rattle.reader.specs.Stages.{header_read, Headed}
use Rattle.reader.specs.View.{size_of}
use Rattle.netlist.specs.declared.Size.{Size}
use Rattle.netlist.specs.declared.Fabric.{Fabric}
use Rattle.netlist.proofs.Whole.{accepted_fabric}
use Rattle.std.proofs.Common.{Ok}
use Rattle.reader.proofs.Accepted.{accepted-records}
use Rattle.reader.proofs.Facts.{table-kinds, records-accepted}
use Rattle.fabric.specs.PackedFile.{header_bytes, packed_file}
use Rattle.cases.specs.CreditLoop.{credit_table, credit_file}

-- Header hex 10 06 06 4E, length 82.
pub credit-header : take 4 credit_file ≡ 16 ∷ 6 ∷ 6 ∷ 78 ∷ []
unfolding credit_file credit_table packed_file header_bytes records record_bytes
credit-header = refl

pub credit-length : length credit_file ≡ 82
unfolding credit_file credit_table packed_file header_bytes records record_bytes
credit-length = refl

-- it is accepted: C=1, M=6, N=6
pub credit-reads : reading credit_file ≡ Ok (sized 1 6 6)
unfolding credit_file credit_table packed_file header_bytes header_fields records record_bytes record_row record_pad open_table reading first_bad_record first_unmatched end_of dependence depends_on near_of least count any walks has_circle row_ok kind_of port_of port_use uses_first_map uses_second_map uses_mask is_source is_queue
credit-reads = refl

-- ---- the hypothesis records hold of the credit loop
-- what reading a file gives of ends and an order: if the file is accepted, all that an accepted fabric gives
abbrev pub ReadOf : List ℕ → List ℕ → List ℕ → Type 0
ReadOf file ends order = (s : Size) → reading file ≡ Ok s → AcceptedFabric (netlist_of s (open_table file s.components)) ends order

-- it holds of the ends and the order of the fabric that `read` answers
module _ (file : List ℕ) (fabric : Fabric) (answer : size_of (Ok fabric) ≡ reading file) (table : fabric.netlist.table.bytes.now ≡ open_table file fabric.netlist.size.components) where
  pub read-accepted : (size : Size) → reading file ≡ Ok size → AcceptedFabric (netlist_of size (open_table file size.components)) fabric.ends.now fabric.order.now
  read-accepted size reads =
      let same : fabric.netlist.size ≡ size = cc in
      subst (λ (s : Size). AcceptedFabric (netlist_of s (open_table file s.components)) fabric.ends.now fabric.order.now) same
      (subst (λ (t : List ℕ). AcceptedFabric (netlist_of fabric.netlist.size t) fabric.ends.now fabric.order.now) table (accepted_fabric fabric.wires))

-- all that an accepted fabric gives, of any ends and order that reading it gives
pub credit-accepted : (ends order : List ℕ) → ReadOf credit_file ends order → AcceptedFabric (netlist 1 6 6 (open_table credit_file 6)) ends order
credit-accepted ends order r = r (sized 1 6 6) credit-reads

-- and of the fabric that `read` answers
pub credit-fabric-accepted : (fabric : Fabric) → size_of (Ok fabric) ≡ reading credit_file → fabric.netlist.table.bytes.now ≡ open_table credit_file fabric.netlist.size.components
    → AcceptedFabric (netlist 1 6 6 (open_table credit_file 6)) fabric.ends.now fabric.order.now
credit-fabric-accepted fabric answer table = credit-accepted fabric.ends.now fabric.order.now (read-accepted credit_file fabric answer table)

credit-header-read : header_read (header_fields credit_file) credit_file ≡ Ok (sized 1 6 6)
unfolding credit_file credit_table packed_file header_bytes header_fields header_read records record_bytes
credit-header-read = refl

pub credit-headed : Headed credit_file (sized 1 6 6)
credit-headed = record { enough = omega (arith, credit-length); is = credit-header-read; few = omega arith; few_colours = omega arith; few_channels = omega arith; long = credit-length }

pub credit-kinds : Kinds (open_table credit_file 6) 6
credit-kinds =
    table-kinds 1 6 6 credit_file (open_table credit_file 6) (omega arith) (length-rows credit_file 6)
    (records-accepted 1 6 6 credit_file (open_table credit_file 6) (accepted-records credit_file credit-reads)).0
