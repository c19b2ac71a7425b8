-- The facts of an accepted file, with ends and an order that there are. Assumes nothing.
use Rattle.std.proofs.Common.{Ok}
use mathlib.Core.Path.{◌≡◌, ◌∙◌}
use Prim.Native.Nat.{ℕ, ◌+◌, ◌*◌, ◌/◌, ◌%◌, ◌≤◌, ◌<◌}
use native.Mathlib.Omega.{arith}
use mathlib.Core.Bool.{Bool, true, false}
use mathlib.Core.List.{List}
use lib.ListN.{length, get_or}
use lib.Dec.{ltb}
use borrow.Author.Tests.{eq-eqb, ne_eqb, ltb-false}
use Rattle.order.specs.Graph.{has_circle}
use Rattle.order.proofs.Exists.{listed, sorted-exists}
use Rattle.refusals.specs.Refusals.{first_refusal}
use Rattle.refusals.specs.declared.Refusal.TheVariants.{ChannelEnds, Circle}
use Rattle.refusals.proofs.Refusals.{cond-accepted}
use Rattle.record.specs.Table.{row, open_table}
use Rattle.record.proofs.Table.{length-rows}
use Rattle.component.specs.Limits.{most_channels, most_colours, most_components}
use Rattle.component.proofs.Facts.{row-facts}
use Rattle.wiring.specs.Ends.{is_end, first_unmatched}
use Rattle.wiring.specs.Ports.{found}
use Rattle.wiring.specs.Signals.{gives, dependence}
use Rattle.wiring.specs.Stages.{signal_at, FoundEnds, ends_size}
use Rattle.wiring.proofs.Ends.{all-ends}
use Rattle.netlist.specs.Netlist.{netlist_of}
use Rattle.netlist.specs.declared.Size.{Size}
use Rattle.netlist.specs.Accepted.{AcceptedFabric}
use Rattle.reader.specs.File.{header_fields, colours_in, channels_in, components_in, wire_tests}
use Rattle.reader.specs.Reading.{reading}
use Rattle.reader.proofs.Tests.{colours_lt, channels-lt}
use Rattle.reader.proofs.Facts.{mask-byte, good-records, records-accepted}
use Rattle.reader.proofs.Accepted.{accepted-size, accepted-header, accepted-records}

-- the end that gives a signal, by the signal's number
gives_at : (table : List ℕ) (side : Bool) (x e : ℕ) → found (gives table (signal_at side x)) e ≡ found (is_end table side x) e
gives_at table true x e =
    let a : 2 * x / 2 ≡ x = omega arith in
    rw (a, eq-eqb (2 * x % 2) 0 (omega arith))
gives_at table false x e =
    let a : (2 * x + 1) / 2 ≡ x = omega arith in
    rw (a, ne_eqb ((2 * x + 1) % 2) 0 (λ (z : (2 * x + 1) % 2 ≡ 0). absurd (omega arith)))

-- there is a list of the ends that are found
ends-exist : (table : List ℕ) (e : ℕ) → (ends : List ℕ) × FoundEnds table e ends
ends-exist table e = go (listed (λ s. found (gives table s) e) ends_size)
  where
    below : (side : Bool) (x : ℕ) → x < 256 → signal_at side x < ends_size
    below true x h = omega arith
    below false x h = omega arith

    go : (l : List ℕ) × (length l ≡ ends_size) × ((s : ℕ) → s < ends_size → get_or l s 0 ≡ found (gives table s) e) → (ends : List ℕ) × FoundEnds table e ends
    go (l, n, at) = (l, record { long = n; at = λ side x h. at (signal_at side x) (below side x h) ∙ gives_at table side x e })

-- the tests of an accepted table's channels
wires-accepted : (table : List ℕ) (n channels : ℕ) → first_refusal (wire_tests table n channels) ≡ (Ok tt)
    → (channels ≤ first_unmatched table n channels) × (has_circle (dependence table n) (2 * channels) ≡ false)
wires-accepted table n channels e =
    let s = cond-accepted (ChannelEnds (first_unmatched table n channels)) (ltb (first_unmatched table n channels) channels) _ e in
    (ltb-false (first_unmatched table n channels) channels s.0, (cond-accepted Circle (has_circle (dependence table n) (2 * channels)) (Ok tt) s.1).0)

-- the facts of every accepted file, with ends and an order that there are
pub accepted-exists : (file : List ℕ) (s : Size) → reading file ≡ Ok s → (ends : List ℕ) × (order : List ℕ) × AcceptedFabric (netlist_of s (open_table file s.components)) ends order
accepted-exists file s e =
    let C : ℕ = s.colours in
    let M : ℕ = s.channels in
    let N : ℕ = s.components in
    let r = records-accepted C M N file (open_table file N) (accepted-records file e) in
    let w = wires-accepted (open_table file N) N M r.1 in
    let f = accepted-header file e in
    let a : colours_in (header_fields file) ≡ C = (accepted-size file e).0 in
    let b : channels_in (header_fields file) ≡ M = (accepted-size file e).1 in
    let c : components_in (header_fields file) ≡ N = (accepted-size file e).2 in
    let ca = colours_lt file in
    let cb = channels-lt file in
    let some_colours : 0 < C = omega arith in
    let few_colours : C ≤ most_colours = omega arith in
    let some_channels : 0 < M = omega (arith, f.some_channels) in
    let few_channels : M ≤ most_channels = omega arith in
    let few_rows : N ≤ most_components = omega (arith, f.few_rows) in
    let ends = ends-exist (open_table file N) (3 * N) in
    let order = sorted-exists (dependence (open_table file N) N) (2 * M) (omega arith) w.1 in (
      ends.0,
      order.0,
      record {
        some_colours = some_colours;
        few_colours = few_colours;
        some_channels = some_channels;
        few_channels = few_channels;
        some_rows = omega (arith, f.some_rows);
        few_rows = few_rows;
        long = length-rows file N;
        rows = λ k h. row-facts C M (row (open_table file N) k) some_colours few_colours some_channels (mask-byte file N k h) (good-records C M N file (open_table file N) r.0 k h).1;
        wires = record { matched = all-ends (open_table file N) N M few_rows few_channels ends.0 ends.1 w.0; sorted = order.1 };
      },
    )
