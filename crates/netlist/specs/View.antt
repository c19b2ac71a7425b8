-- A netlist that was read, and a draft, as the netlist each stands for.
use Rattle.netlist.specs.declared.Draft.{Draft}
use Rattle.netlist.specs.declared.Netlist as declared
use Rattle.netlist.specs.Netlist.{Netlist, netlist_of}

abbrev pub facts_of : declared.Netlist → Netlist
facts_of netlist = netlist_of netlist.size netlist.table.bytes.now

abbrev pub drawn : Draft → Netlist
drawn draft = netlist_of draft.size draft.table.bytes.now
