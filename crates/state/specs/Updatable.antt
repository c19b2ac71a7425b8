-- What the code asks for to write the state after a step. It holds of every step from a good state under allowed choices.
use Rattle.std.specs.Prelude.{◌≡◌, List, ℕ, zero, suc, ◌+◌, ◌*◌, ◌≤◌, ◌<◌, length}
use Rattle.record.specs.Table.{row}
use Rattle.component.specs.declared.kinds.Kind.TheVariants.{Queue}
use Rattle.component.specs.declared.kinds.Port.{Port}
use Rattle.component.specs.declared.kinds.Port.TheVariants.{A, B}
use Rattle.component.specs.Row.{kind, port}
use Rattle.component.specs.Limits.{most_components}
use Rattle.cells.specs.Cells.{cell, queue_colours, Queue as QueueCell, cell_size}
use Rattle.held.specs.Values.{offered}
use Rattle.held.specs.declared.Channel.{Channel}
use Rattle.signals.specs.Channels.{offer_in, moved_in}
use Rattle.state.specs.Step.{dropped}

-- the byte behind a queue's last colour after a step: the colour that came in, or what stood there
abbrev pub newest : ℕ → ℕ → ℕ
newest zero old = old
newest (suc d) old = d

-- what moves fits them
pub record Moves (s : List ℕ) (ma mb : ℕ) : Type 0 where
  pub whole : QueueCell s
  pub out : 0 < mb → 0 < length (queue_colours s)
  pub room : length (dropped mb (queue_colours s)) + offered ma ≤ 63

-- a component's bytes, with the channels at its ports in memory: their offers have bytes, and what moves fits a queue
pub record Movable (table : List ℕ) (k : ℕ) (cell : List ℕ) (channels : List Channel) : Type 0 where
  pub cells : length cell ≡ cell_size
  pub ports : (p : Port) → port (row table k) p < length channels
  pub small : (p : Port) → offer_in channels (port (row table k) p) ≤ 255
  pub queues : kind (row table k) ≡ Queue → Moves cell (moved_in channels (port (row table k) A)) (moved_in channels (port (row table k) B))

-- the sizes fit, and what moves fits each queue
pub record Updatable (table : List ℕ) (n : ℕ) (state : List ℕ) (channels : List Channel) : Type 0 where
  pub few : n ≤ most_components
  pub states : cell_size * n ≤ length state
  pub each : (k : ℕ) → k < n → Movable table k (cell state k) channels
