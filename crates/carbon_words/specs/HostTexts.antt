-- The texts of addresses of IPv4.
use Rattle.std.specs.Prelude.{ℕ, ◌-◌, ◌==◌, ◌&&◌, Bool, nat_le, List, [], ◌∷◌, ◌++◌, length, replicate, bytes_eq, decimal, Option, Some, None, option_map, option_and_then, if◌then◌else◌}
use Rattle.std.specs.List.{slice_split}
use Rattle.std.specs.Str.Parse.{digits_value}
use Rattle.std.specs.declared.net.ipv4_addr.Ipv4Addr.{Ipv4Addr}
use Rattle.clap.specs.Walk.{Text}
use Rattle.carbon_words.specs.declared.hosts.Hosts.{Hosts}

-- a whole number of 0 to 255 in decimals, without zeros in front of it
unfoldable pub octet_of : Text → Option ℕ
octet_of text =
    let n = digits_value 10 text in
    if nat_le n 255 && bytes_eq (decimal n) text then Some n else None

abbrev pub is_dot : ℕ → Bool
is_dot byte = byte == 46

abbrev pub address : List ℕ → Ipv4Addr
address octets = record { octets = octets }

-- four such numbers
abbrev pub address_by : List Text → Option Ipv4Addr
address_by (a ∷ b ∷ c ∷ d ∷ []) =
    option_and_then (λ w. option_and_then (λ x. option_and_then (λ y. option_map (λ z. address (w ∷ x ∷ y ∷ z ∷ []))
    (octet_of d)) (octet_of c)) (octet_of b)) (octet_of a)
address_by _ = None

-- an address: four such numbers with dots between them
unfoldable pub address_of : Text → Option Ipv4Addr
address_of text = address_by (slice_split is_dot text)

-- the addresses of texts, where each is one
abbrev pub addresses_of : List Text → Option (List Ipv4Addr)
addresses_of [] = Some []
addresses_of (text ∷ texts) =
    option_and_then (λ first. option_map (λ more. first ∷ more) (addresses_of texts)) (address_of text)

-- 0.0.0.0, which stands for all addresses of the machine
abbrev pub unspecified : Ipv4Addr
unspecified = address (0 ∷ 0 ∷ 0 ∷ 0 ∷ [])

-- addresses, and what stands behind them
abbrev pub hosts : ℕ → List Ipv4Addr → Hosts
hosts count addresses = record { list = addresses ++ replicate (16 - count) unspecified; count = count }

-- at most 16 addresses
unfoldable pub hosts_by : List Text → Option Hosts
hosts_by texts =
    if nat_le (length texts) 16 then option_map (hosts (length texts)) (addresses_of texts) else None

abbrev pub all_hosts : Hosts
all_hosts = hosts 1 (unspecified ∷ [])
