-- Globs are ASCII.
use Rattle.std.proofs.Common.{◌≡◌, ℕ, List, [], ◌++◌, IsAscii, IsUtf8, None, subst}
use Rattle.path_glob.specs.Faults.{glob_fault}
use Rattle.path_glob.proofs.StretchLemmas.{path_fills}
use Rattle.target_parse.proofs.AsciiLemmas.{ascii_is_utf8, stretch_is_ascii}
use Rattle.target_parse.proofs.WordLemmas.{stretch_is}

pub glob_is_utf8 : (text : List ℕ) → glob_fault text ≡ None → IsUtf8 text
glob_is_utf8 text legal = ascii_is_utf8 text (subst IsAscii (stretch_is text [] (path_fills text legal) tt) (stretch_is_ascii (text ++ [])))
