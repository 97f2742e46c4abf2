-- The numbers that a run draws from its own.
use Rattle.std.specs.Prelude.{ℕ, zero, suc, ◌+◌, ◌*◌, ◌/◌, ◌%◌}

-- the draw behind a draw
abbrev pub drawn_behind : ℕ → ℕ
drawn_behind draw = (1103515245 * draw + 12345) % 2147483648

-- the draw of a round: the first is the run's own number
unfoldable pub draw_of : ℕ → ℕ → ℕ
draw_of count zero = count
draw_of count (suc round) = drawn_behind (draw_of count round)

-- the team of a draw, below 4
abbrev pub team_in : ℕ → ℕ
team_in draw = (draw / 65536) % 4
