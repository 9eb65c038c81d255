-- The files of a class are a half with each desk that knows the layouts of what is kept.
use Rattle.std.proofs.Common.{◌≡◌, ◌∙◌, ℕ, List, sym, subst, Option, Some, None, IfSome}
use Rattle.std.specs.Prelude.{IsSomeAnd}
use Rattle.outside_io.specs.Image.{Image}
use Rattle.metric_path.specs.FileName.{file_name_of}
use Rattle.ring_format.specs.Layout.{LayoutValue}
use Rattle.ring_format.specs.Patch.{PatchValue}
use Rattle.write_shelf.specs.Shelf.{DrainValue}
use Rattle.carbon_model.specs.RingFiles.{IsOfClass}
use Rattle.shard_core.specs.Halves.{AreHalves, DeskInside, FilesInside}
use Rattle.shard_core.specs.Shard.{HasFiles, HoldsShelf, IsLawfulRing, patch_on}
use Rattle.shard_core.specs.Table.{Table}
use Rattle.shared_store.specs.Locks.{HasLayouts}

-- of two tables that have the layouts of what is kept, one serves as the other
module _ (class : ℕ) (before table : Table) (layouts : List ℕ → Option (ℕ × LayoutValue)) (then : HasLayouts class before layouts) (now : HasLayouts class table layouts) where
  files_move : (patch : Option PatchValue) (known : Option Image) → HasFiles class before patch known → HasFiles class table patch known
  files_move patch None has = tt
  files_move patch (Some image) has = λ path legal here free.
      let is : IsOfClass class path = record { legal = legal; here = here } in
      subst (λ (o : Option (ℕ × LayoutValue)). IfSome o (λ form. IsSomeAnd (image (file_name_of path)) (IsLawfulRing form.0 form.1))) (then.each path is ∙ sym (now.each path is)) (has path legal here free)

  shelf_moves : (shelf : Option DrainValue) (known : Option Image) → HoldsShelf class before shelf known → HoldsShelf class table shelf known
  shelf_moves None known has = tt
  shelf_moves (Some drain) known has =
      let is : IsOfClass class drain.patch.path = record { legal = has.0.legal; here = has.0.here } in (
        record { legal = has.0.legal; here = has.0.here; kept = now.each drain.patch.path is ∙ (sym (then.each drain.patch.path is) ∙ has.0.kept); lawful = has.0.lawful },
        has.1,
      )

pub halves_move : (before desk : DeskInside) (files : FilesInside) (layouts : List ℕ → Option (ℕ × LayoutValue)) → HasLayouts files.class before.table layouts → HasLayouts files.class desk.table layouts
    → files.class ≡ desk.class → AreHalves before files → AreHalves desk files
halves_move before desk files layouts then now here are =
    let rings = subst (λ (k : ℕ). HasFiles k before.table (patch_on files.shelf) files.known) (sym are.one) are.rings in
    let writing = subst (λ (k : ℕ). HoldsShelf k before.table files.shelf files.known) (sym are.one) are.writing in
    record {
      one = here;
      rings = subst (λ (k : ℕ). HasFiles k desk.table (patch_on files.shelf) files.known) here (files_move files.class before.table desk.table layouts then now (patch_on files.shelf) files.known rings);
      writing = subst (λ (k : ℕ). HoldsShelf k desk.table files.shelf files.known) here (shelf_moves files.class before.table desk.table layouts then now files.shelf files.known writing);
      logged = are.logged;
    }
