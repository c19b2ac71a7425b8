use Rattle.std.proofs.Common.{drop, ◌++◌, ap, ◌∙◌, arith}
use Rattle.carried.specs.Carried.{check_place}
use Rattle.fabric.proofs.Packing.{file_done}
use Rattle.fabric.proofs.put_file.Goals as goal

pub returns : goal.returns
returns c =
    let a = c.args in
    let start = c.put_header-start.ensures in
    let total = c.put_records-total.ensures in
    file_done a.c a.channels a.table.now.rows a.table.now.bytes.now c.requires.0 (omega arith) (omega arith) a.out.now _ _ _ c.requires.2
    (start.0 ∙ ap (λ h. h ++ drop check_place a.out.now) c.header_of.ensures)
    total.0
    total.1
    _
    c.put_check.ensures
