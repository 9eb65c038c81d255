-- The globs of queries, one after the other.
use Rattle.std.proofs.Common.{◌≡◌, ℕ, ◌+◌, List, [], ◌∷◌, ◌++◌, Result, Ok, Err, refl, sym, ap, ◌∙◌, append_assoc}
use Rattle.path_glob.specs.Faults.{Said, legal_glob}
use Rattle.path_glob.specs.declared.fault.GlobFault.{GlobFault}
use Rattle.find_api.specs.Queries.{globs_from, with_glob}
use Rattle.find_api.specs.declared.fault.FindFault.{FindFault}
use Rattle.find_api.specs.declared.fault.FindFault.TheVariants.{BadQuery}

-- some globs, and those of what is left
abbrev pub onto : List Said → Result (List Said) FindFault → Result (List Said) FindFault
onto globs (Ok others) = Ok (globs ++ others)
onto globs (Err fault) = Err fault

onto_by : (globs : List Said) (glob : Said) (n : ℕ) (others : Result (List Said) FindFault) → onto globs (with_glob n (Ok glob) others) ≡ onto (globs ++ glob ∷ []) others
onto_by globs glob n (Ok others) = ap (λ (l : List Said). Ok l) (sym (append_assoc globs (glob ∷ []) others))
onto_by globs glob n (Err fault) = refl

-- the next text is a glob
pub onto_next : (globs : List Said) (n : ℕ) (text : List ℕ) (texts : List (List ℕ)) (glob : Said) → legal_glob text ≡ Ok glob → onto globs (globs_from n (text ∷ texts)) ≡ onto (globs ++ glob ∷ []) (globs_from (n + 1) texts)
onto_next globs n text texts glob is = ap (λ (r : Result Said GlobFault). onto globs (with_glob n r (globs_from (n + 1) texts))) is ∙ onto_by globs glob n (globs_from (n + 1) texts)

-- the next text is none
pub onto_bad : (globs : List Said) (n : ℕ) (text : List ℕ) (texts : List (List ℕ)) (fault : GlobFault) → legal_glob text ≡ Err fault → onto globs (globs_from n (text ∷ texts)) ≡ Err (BadQuery n)
onto_bad globs n text texts fault is = ap (λ (r : Result Said GlobFault). onto globs (with_glob n r (globs_from (n + 1) texts))) is
