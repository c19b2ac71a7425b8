-- Channels are persistent, and what a merge holds is offered. Assumes nothing.
use lib.ListN.{length}
use Rattle.netlist.specs.Netlist.{Netlist}
use Rattle.reader.specs.File.{netlist_in}
use Rattle.reader.proofs.Opened.{facts}
use Rattle.persistence.specs.Held.{HeldOffered}
use Rattle.persistence.proofs.Persistent.{persists}
use Rattle.persistence.proofs.Held.{held_start, held-step}
use Rattle.stepping.proofs.Calls.{started-file}
use Rattle.calls.proofs.Calls.{calls-keep}
use Rattle.demands.specs.Persistent.{Persistent, HeldAlwaysOffered}

pub persistent : Persistent
persistent file state choices later ok g w x h =
    let a = facts file ok in
    persists (netlist_in file) a.0 a.1 state choices (record { accepted = a.2; good = g; allowed = w }) later x h

pub held_always_offered : HeldAlwaysOffered
held_always_offered file state began calls =
    let f : Netlist = netlist_in file in
    let a = facts file (started-file file (length state) began).0 in
    (calls-keep file (HeldOffered f) (λ s e. held_start f a.0 a.1 a.2 s) (λ s c g w p. held-step f a.0 a.1 s c (record { accepted = a.2; good = g; allowed = w })) state began calls).1
