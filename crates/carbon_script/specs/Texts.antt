-- What a script writes.
use Rattle.std.specs.Prelude.{ℕ, Bool, List, ◌++◌, codes, decimal, nat_eq, if◌then◌else◌}
use Rattle.std.specs.List.{ends_with}
use Rattle.render_answer.specs.Answer.{refusal_text}
use Rattle.render_answer.specs.declared.answer.Answer.{Answer}
use Rattle.render_answer.specs.declared.answer.Answer.TheVariants.{Body, Refused}
use Rattle.render_answer.specs.declared.refusal.Refusal.{Refusal}
use Rattle.carbon_script.specs.declared.counts.Counts.{Counts}

unfoldable pub bad_command : List ℕ
bad_command = codes "bad command\n"

unfoldable pub plan_idle : List ℕ
plan_idle = codes "plan idle\n"

unfoldable pub write_run : List ℕ
write_run = codes "write run\n"

unfoldable pub write_finished : List ℕ
write_finished = codes "write finished\n"

unfoldable pub write_nothing : List ℕ
write_nothing = codes "write nothing\n"

-- a number behind a word, and the same as a line
abbrev pub count_text : List ℕ → ℕ → List ℕ
count_text word n = word ++ decimal n

abbrev pub count_line : List ℕ → ℕ → List ℕ
count_line word n = count_text word n ++ codes "\n"

-- ---- drains

unfoldable pub planned_word : List ℕ
planned_word = codes "plan "

abbrev pub plan_text : List ℕ → List ℕ
plan_text path = planned_word ++ (path ++ codes "\n")

unfoldable pub drained_word : List ℕ
drained_word = codes "drained "

abbrev pub drained_text : ℕ → List ℕ
drained_text n = count_line drained_word n

-- ---- failed disks

unfoldable pub plan_fault_word : List ℕ
plan_fault_word = codes "plan fault class "

unfoldable pub write_fault_word : List ℕ
write_fault_word = codes "write fault class "

unfoldable pub drain_fault_word : List ℕ
drain_fault_word = codes "drain fault class "

unfoldable pub fault_word : List ℕ
fault_word = codes "fault class "

abbrev pub plan_fault_text : ℕ → List ℕ
plan_fault_text class = count_line plan_fault_word class

abbrev pub write_fault_text : ℕ → List ℕ
write_fault_text class = count_line write_fault_word class

abbrev pub drain_fault_text : ℕ → List ℕ
drain_fault_text class = count_line drain_fault_word class

abbrev pub fault_reply : ℕ → List ℕ
fault_reply class = count_line fault_word class

-- ---- answers

unfoldable pub refused_word : List ℕ
refused_word = codes "refused "

abbrev pub refused_reply : Refusal → List ℕ
refused_reply why = refused_word ++ (refusal_text why ++ codes "\n")

-- whether a text ends a line
abbrev pub ends_line : List ℕ → Bool
ends_line text = ends_with nat_eq text (codes "\n")

-- the series of a query, with a line end unless there is one; a reply without bytes is a line end alone
abbrev pub answer_reply : Answer → List ℕ
answer_reply (Body form text) = if ends_line text then text else text ++ codes "\n"
answer_reply (Refused why) = refused_reply why

-- ---- the summary

unfoldable pub stored_word : List ℕ
stored_word = codes "stored "

unfoldable pub replaced_word : List ℕ
replaced_word = codes " replaced "

unfoldable pub full_word : List ℕ
full_word = codes " full "

unfoldable pub fields_word : List ℕ
fields_word = codes " fields "

unfoldable pub path_word : List ℕ
path_word = codes " path "

unfoldable pub value_word : List ℕ
value_word = codes " value "

unfoldable pub time_word : List ℕ
time_word = codes " time "

unfoldable pub long_word : List ℕ
long_word = codes " long "

unfoldable pub drains_word : List ℕ
drains_word = codes " drains "

-- the puts by their ends, and the lines that were refused by their reason
unfoldable pub puts_text : Counts → List ℕ
puts_text c = count_text stored_word c.stored ++ (count_text replaced_word c.replaced ++ count_text full_word c.full)

unfoldable pub refusals_text : Counts → List ℕ
refusals_text c = count_text fields_word c.fields ++ (count_text path_word c.path ++ (count_text value_word c.value ++ (count_text time_word c.time ++ count_text long_word c.long)))

-- the summary of these counts and so many drains
abbrev pub summary_of : Counts → ℕ → List ℕ
summary_of counts drains = puts_text counts ++ (refusals_text counts ++ count_line drains_word drains)
