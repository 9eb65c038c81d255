use Rattle.std.proofs.Common.{◌∷◌, [], refl}
use Rattle.path_glob.specs.Glob.{AnyByte, AnyRow, Plain}
use Rattle.path_glob.proofs.FirstLemmas.{byte_reads, first_piece, piece_first}
use Rattle.path_glob.proofs.laws.wildcards_stay_within_a_node.Goals as goal

pub returns : goal.returns
returns c =
    let byte = byte_reads 63 refl refl refl in
    let row = byte_reads 42 refl refl refl in
    record {
      any_byte = λ glob path. (first_piece (63 ∷ []) (Plain AnyByte) glob path byte, piece_first (63 ∷ []) (Plain AnyByte) glob path byte);
      any_row = λ glob path. (first_piece (42 ∷ []) (Plain AnyRow) glob path row, piece_first (42 ∷ []) (Plain AnyRow) glob path row);
    }
