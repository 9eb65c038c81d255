-- The words of a command line, without the program's name.
use Rattle.std.specs.Prelude.{◌≡◌, ◌<◌, ◌≤◌, ℕ, ◌&&◌, nat_le, true, false, Bool, List, [], ◌∷◌, codes, Option, Some, None, option_map, option_and_then, if◌then◌else◌}
use Rattle.std.specs.Option.{option_map_or}
use Rattle.std.specs.Str.{bytes_eq}
use Rattle.fixed_num.specs.Whole.{whole_number}
use Rattle.drain_order.specs.declared.strategy.Strategy.{Strategy}
use Rattle.drain_order.specs.declared.strategy.Strategy.TheVariants.{Max, Sorted, TimeSorted, Naive}
use Rattle.clap.specs.Faults.{fault_of}
use Rattle.clap.specs.Kinds.{Kinds}
use Rattle.clap.specs.Simple.{App, Shape, new_app, new_rule, on_top, subcommand_of, subcommand_rows_of, with_rule, with_subcommand}
use Rattle.clap.specs.Walk.{Row, Rule, Text, all_of, first_of}
use Rattle.clap.specs.declared.builder.action.ArgAction.TheVariants.{Append, SetTrue}
use Rattle.clap.specs.declared.parser.matches.ArgMatches.{ArgMatches}
use Rattle.carbon_words.specs.declared.command.Command.{Command}
use Rattle.carbon_words.specs.declared.command.Command.TheVariants.{Sample, Script, Serve}
use Rattle.carbon_words.specs.declared.command.DrainOptions.{DrainOptions}
use Rattle.carbon_words.specs.declared.command.Options.{Options}
use Rattle.carbon_words.specs.declared.command.PortHosts.{PortHosts}
use Rattle.carbon_words.specs.declared.command.SampleOptions.{SampleOptions}
use Rattle.carbon_words.specs.declared.command.ServeOptions.{ServeOptions}
use Rattle.carbon_words.specs.declared.hosts.Hosts.{Hosts}
use Rattle.carbon_words.specs.declared.reading.Choice.{Choice}
use Rattle.carbon_words.specs.HostTexts.{all_hosts, hosts_by}

-- ---- which words are commands

-- an option that has a value
abbrev pub option_rule : Text → Rule
option_rule name = record (new_rule name) { long = Some name }

-- an option that stands alone, once at most
abbrev pub flag_rule : Text → Rule
flag_rule name = record (option_rule name) { action = Some SetTrue }

-- one that may be given several times
abbrev pub repeatable_rule : Text → Rule
repeatable_rule name = record (option_rule name) { action = Some Append }

abbrev pub with_option : Text → App → App
with_option name app = with_rule app (option_rule name)

abbrev pub with_flag : Text → App → App
with_flag name app = with_rule app (flag_rule name)

abbrev pub with_repeatable : Text → App → App
with_repeatable name app = with_rule app (repeatable_rule name)

-- a number that has to stand
abbrev pub number_rule : Text → Rule
number_rule name = record (new_rule name) { required = true }

abbrev pub with_number : Text → App → App
with_number name app = with_rule app (number_rule name)

abbrev pub without_help : App → App
without_help = on_top (λ s. record s { disable_help_flag = true })

-- the words behind every command: the limit, the order, and whether there is a redo log
unfoldable pub command_app : Text → App
command_app name =
    with_flag (codes "redo") (with_option (codes "order") (with_option (codes "limit") (without_help (new_app name))))

-- the words behind `script`
abbrev pub script_app : App
script_app = command_app (codes "script")

-- the words behind `serve`
unfoldable pub serve_app : App
serve_app =
    with_repeatable (codes "http-host")
    (with_repeatable (codes "line-host")
    (with_option (codes "creates")
    (with_option (codes "pace")
    (with_option (codes "drainers")
    (with_option (codes "answer-bytes")
    (with_option (codes "links")
    (with_option (codes "line-patience")
    (with_option (codes "renderers")
    (with_option (codes "receivers")
    (with_option (codes "http-port")
    (with_option (codes "line-port") (command_app (codes "serve")))))))))))))

-- the words behind `sample`: its start, and how many metric lines it has
unfoldable pub sample_app : App
sample_app = with_number (codes "count") (with_number (codes "start") (command_app (codes "sample")))

-- The program has no word before its command, and none of clap's own commands and flags.
abbrev pub commands_alone : Shape → Shape
commands_alone s = record s {
  no_binary_name = true;
  disable_help_flag = true;
  disable_help_subcommand = true;
  disable_version_flag = true;
  subcommand_required = true;
}

-- all words
unfoldable pub carbon : App
carbon =
    with_subcommand
    (with_subcommand (with_subcommand (on_top commands_alone (new_app (codes "carbon"))) script_app.top) serve_app.top)
    sample_app.top

-- ---- what they say

-- the number of a text, in a range
unfoldable pub between : ℕ → ℕ → Text → Option ℕ
between least most text =
    option_and_then (λ n. if nat_le least n && nat_le n most then Some n else None) (whole_number text)

-- the number that stands under a name
unfoldable pub number_given : ℕ → ℕ → Text → List Row → Option ℕ
number_given least most name rows = option_and_then (between least most) (first_of name rows)

-- the number that an option says, or would say
unfoldable pub number_in : Choice → Text → List Row → Option ℕ
number_in choice name rows = option_map_or (between choice.least choice.most) (first_of name rows) (Some choice.other)

abbrev pub choice : ℕ → ℕ → ℕ → Choice
choice least most other = record { least = least; most = most; other = other }

unfoldable pub order_of : Text → Option Strategy
order_of text =
    if bytes_eq text (codes "max") then Some Max else
    (if bytes_eq text (codes "sorted") then Some Sorted else
    (if bytes_eq text (codes "timesorted") then Some TimeSorted else
    (if bytes_eq text (codes "naive") then Some Naive else None)))

-- the drain order that an option says: most points first where it is left out
unfoldable pub order_in : List Row → Option Strategy
order_in rows = option_map_or order_of (first_of (codes "order") rows) (Some Sorted)

-- an option that stands alone has this value where it stands, and another where it does not
unfoldable pub is_on : Text → Bool
is_on text = bytes_eq text (codes "true")

-- whether drains go through the redo log
unfoldable pub redo_in : List Row → Bool
redo_in rows = option_map_or is_on (first_of (codes "redo") rows) false

-- what every command may say
unfoldable pub options_in : List Row → Option Options
options_in rows =
    option_and_then (λ limit. option_map (λ order. record { limit = limit; order = order; redo = redo_in rows }) (order_in rows))
    (number_in (choice 1 10000000 262144) (codes "limit") rows)

-- how what is pending goes to the disk
unfoldable pub drain_options_in : List Row → Option DrainOptions
drain_options_in rows =
    option_and_then (λ drainers. option_and_then (λ pace. option_map (λ creates. record {
      drainers = drainers;
      pace = pace;
      creates = creates;
    })
    (number_in (choice 0 1000000 0) (codes "creates") rows))
    (number_in (choice 0 1000000 0) (codes "pace") rows))
    (number_in (choice 1 16 1) (codes "drainers") rows)

-- the addresses that an option says, given once for each of them; all of the machine where it is left out
unfoldable pub hosts_in : Text → List Row → Option Hosts
hosts_in name rows = option_map_or hosts_by (all_of name rows) (Some all_hosts)

-- at which addresses the ports are open
unfoldable pub port_hosts_in : List Row → Option PortHosts
port_hosts_in rows =
    option_and_then (λ lines. option_map (λ http. record { lines = lines; http = http }) (hosts_in (codes "http-host") rows))
    (hosts_in (codes "line-host") rows)

-- what `serve` may say besides
unfoldable pub serve_options_in : List Row → Option ServeOptions
serve_options_in rows =
    option_and_then (λ lines. option_and_then (λ http. option_and_then (λ receivers. option_and_then (λ renderers.
    option_and_then (λ patience. option_and_then (λ links. option_and_then (λ bytes. option_and_then (λ drains.
    option_map (λ hosts. record {
      line_port = lines;
      http_port = http;
      receivers = receivers;
      renderers = renderers;
      line_patience = patience;
      links = links;
      answer_bytes = bytes;
      drains = drains;
      hosts = hosts;
    })
    (port_hosts_in rows))
    (drain_options_in rows))
    (number_in (choice 1048576 1099511627776 268435456) (codes "answer-bytes") rows))
    (number_in (choice 0 1000000000 0) (codes "links") rows))
    (number_in (choice 0 86400 900) (codes "line-patience") rows))
    (number_in (choice 1 256 16) (codes "renderers") rows))
    (number_in (choice 1 256 16) (codes "receivers") rows))
    (number_in (choice 0 65535 8080) (codes "http-port") rows))
    (number_in (choice 0 65535 2003) (codes "line-port") rows)

-- what `sample` may say besides
unfoldable pub sample_options_in : List Row → Option SampleOptions
sample_options_in rows =
    option_and_then (λ start. option_map (λ count. record { start = start; count = count })
    (number_given 1 1000000 (codes "count") rows))
    (number_given 0 9999999999 (codes "start") rows)

-- the command of a name, with what stands behind it; there is no fourth one
unfoldable pub command_in : Text → List Row → Option Command
command_in name rows =
    option_and_then (λ options.
    if bytes_eq name (codes "script") then Some (Script options) else
    (if bytes_eq name (codes "serve") then option_map (Serve options) (serve_options_in rows)
    else option_map (Sample options) (sample_options_in rows)))
    (options_in rows)

-- what clap finds, where it refuses nothing
abbrev pub unless_refused : {X : Type 0} → Kinds → Option X → Option X
unless_refused [] found = found
unless_refused (k ∷ ks) found = None

-- the command that a parse met
abbrev pub command_met : Option (Text × List Row) → Option Command
command_met = option_and_then (λ met. command_in met.0 met.1)

-- What these words say, where they are a command.
unfoldable pub command_of : List Text → Option Command
command_of words = command_met (unless_refused (fault_of carbon words) (subcommand_of carbon words))

-- clap refuses nothing in the words, and this is what it finds
pub record FindsWords (words : List Text) (matches : ArgMatches) : Type 0 where
  pub none : fault_of carbon words ≡ []
  pub met : subcommand_rows_of matches ≡ subcommand_of carbon words

-- ---- what is known of each command

abbrev pub HasLimit : Options → Type 0
HasLimit options = 0 < options.limit

-- there are threads that drain, one for each class at most
pub record HasDrainers (options : DrainOptions) : Type 0 where
  pub some : 1 ≤ options.drainers
  pub few : options.drainers ≤ 16

-- there are workers of all kinds, and no more than 528
pub record HasWorkers (options : ServeOptions) : Type 0 where
  pub some_receivers : 1 ≤ options.receivers
  pub few_receivers : options.receivers ≤ 256
  pub some_renderers : 1 ≤ options.renderers
  pub few_renderers : options.renderers ≤ 256
  pub drainers : HasDrainers options.drains

-- there are metric lines, and no more than 1,000,000
pub record HasCount (options : SampleOptions) : Type 0 where
  pub some : 1 ≤ options.count
  pub few : options.count ≤ 1000000

abbrev pub IsSound : Command → Type 0
IsSound (Script options) = HasLimit options
IsSound (Serve options more) = HasLimit options × HasWorkers more
IsSound (Sample options more) = HasLimit options × HasCount more
