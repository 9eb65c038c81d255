-- The text of a sample: metric lines of numbers that a generator draws, the clock and drains in between, and one question at the end.
use Rattle.std.specs.Prelude.{ℕ, zero, suc, ◌+◌, ◌*◌, ◌/◌, ◌%◌, ◌^◌, ◌==◌, List, [], ◌++◌, codes, decimal, if◌then◌else◌, ℤ, pos, ◌-ℤ◌}
use Rattle.fixed_num.specs.Print.{milli_text}

-- ---- the generator

-- where the generator stands after one more step
abbrev pub next_seed : ℕ → ℕ
next_seed seed = (seed * 6364136223846793005 + 1442695040888963407) % 2 ^ 64

-- the number that it shows there: its upper 31 bits
abbrev pub drawn : ℕ → ℕ
drawn seed = seed / 2 ^ 33

-- the number of the metric, and the value in thousandths
abbrev pub metric_at : ℕ → ℕ
metric_at seed = drawn seed % 100

abbrev pub value_at : ℕ → ℤ
value_at seed = pos (drawn seed / 100 % 2000001) -ℤ pos 1000000

-- the time of the line with this number, of which the first is 0: ten seconds more at each hundredth
abbrev pub time_at : ℕ → ℕ
time_at number = 1700000000 + 10 * (number / 100)

-- ---- the lines

unfoldable pub clock_word : List ℕ
clock_word = codes "!clock "

unfoldable pub metric_word : List ℕ
metric_word = codes "sample.m"

unfoldable pub drain_line : List ℕ
drain_line = codes "!drain\n"

unfoldable pub question_text : List ℕ
question_text = codes "!ask target=averageSeries(sample.*)&from=-10min&format=raw\n"

-- before each hundredth line the clock is set to its time
unfoldable pub clock_text : ℕ → List ℕ
clock_text number = if number % 100 == 0 then clock_word ++ (decimal (time_at number) ++ codes "\n") else []

-- the metric line with this number, of what the generator shows
unfoldable pub metric_text : ℕ → ℕ → List ℕ
metric_text seed number =
    metric_word ++ (decimal (metric_at seed) ++ (codes " " ++ (milli_text (value_at seed) ++ (codes " " ++ (decimal (time_at number) ++ codes "\n")))))

-- behind each thousandth line all is drained
unfoldable pub drain_text : ℕ → List ℕ
drain_text number = if number % 1000 == 999 then drain_line else []

-- a metric line with what stands about it
unfoldable pub lines_text : ℕ → ℕ → List ℕ
lines_text seed number = clock_text number ++ (metric_text seed number ++ drain_text number)

-- so many metric lines from the one with this number on, where the generator stands before it
unfoldable pub points_text : ℕ → ℕ → ℕ → List ℕ
points_text seed number zero = []
points_text seed number (suc count) = lines_text (next_seed seed) number ++ points_text (next_seed seed) (number + 1) count

-- all that stands before the question, from this start of the generator, with so many metric lines
abbrev pub sample_front : ℕ → ℕ → List ℕ
sample_front start count = points_text start 0 count

-- the whole text
abbrev pub sample_text : ℕ → ℕ → List ℕ
sample_text start count = sample_front start count ++ question_text
