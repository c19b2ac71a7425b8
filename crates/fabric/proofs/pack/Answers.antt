use Rattle.std.proofs.Common.{◌≡◌, sym, ◌∙◌, ◌+◌, ◌-◌, length, arith}
use Rattle.fabric.proofs.Writing.{PackFacts, pack-accepted, file-of}
use Rattle.fabric.proofs.pack.Goals as goal
use Rattle.fabric.proofs.pack.Goals.{In_ok-pack_answer}

-- the tests are passed
passed : (c : In_ok-pack_answer) → let a = c.args in PackFacts a.colours a.channels a.table.now (length a.file.now)
passed c = let a = c.args in pack-accepted a.colours a.channels a.table.now (length a.file.now) (sym c.in_ok-pack_answer.ensures)

pub returns-in_err-pack_answer-clause-file : goal.returns-in_err-pack_answer-clause-file
returns-in_err-pack_answer-clause-file c = let a = c.args in file-of a.colours a.channels a.table.now a.file.now _ c.in_err-pack_answer.ensures

pub overflow_sub-colours : goal.overflow_sub-colours
overflow_sub-colours c = omega (arith, (passed (goal.at.overflow_sub-colours c).In_ok-pack_answer).inside.some_colours)

pub overflow_cast-colours : goal.overflow_cast-colours
overflow_cast-colours c = omega (arith, (passed (goal.at.overflow_cast-colours c).In_ok-pack_answer).inside.few_colours)

pub overflow_cast-channels : goal.overflow_cast-channels
overflow_cast-channels c = omega (arith, (passed (goal.at.overflow_cast-channels c).In_ok-pack_answer).inside.few_channels)

pub put_file-requires : goal.put_file-requires
put_file-requires c = let f = passed (goal.at.put_file-requires c).In_ok-pack_answer in
    (omega (arith, f.inside.few_colours), omega (arith, f.inside.few_rows), f.room)

pub returns-clause-file : goal.returns-clause-file
returns-clause-file c = let a = c.args in
    let k : a.colours - 1 + 1 ≡ a.colours = omega (arith, (passed (goal.at.returns-clause-file c).In_ok-pack_answer).inside.some_colours) in
    rw k at c.put_file.ensures ∙ file-of a.colours a.channels a.table.now a.file.now _ c.in_ok-pack_answer.ensures
