use Rattle.std.proofs.Common.{◌≡◌, ◌-◌, min, length, sym, subst}
use Rattle.std.specs.Int.{div_ceil}
use Rattle.series_set.specs.OnGrid.{IsPlaceOf}
use Rattle.series_set.proofs.PlaceLemmas.{place_is}
use Rattle.series_set.proofs.series.Series.place_of.Goals as goal

pub returns : goal.returns
returns c =
    let s = c.args.self.now in
    let is : c.min.result ≡ min (length s.values) (div_ceil (c.args.moment - s.start) s.step) = cc in
    subst (IsPlaceOf s c.args.moment) (sym is) (place_is s c.args.moment c.values.ensures.legal.some)
