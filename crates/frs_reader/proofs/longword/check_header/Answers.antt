-- `longword::check_header` meets its contract. Assumes nothing.
use native.Mathlib.Omega.{arith}
use mathlib.Core.Path.{sym, ◌∙◌}
use Rattle.frs_reader.proofs.Longwords.{is_in, denied, granted, no_header, geo_5, geo_6, own_geo}
use Rattle.std.proofs.Common.{ap, not}
use Rattle.frs_reader.proofs.longword.check_header.Goals.{then-not-is_header-via-then-not-is_header, then-not-is_header-via-else-not-is_header+then-geo-eq-PATTERN_GEO, then-not-is_header-via-else-not-is_header+else-geo-eq-PATTERN_GEO+then-geo-eq-SCALER_GEO}
use Rattle.frs_reader.proofs.longword.check_header.Goals as goal

pub returns-then-not-is_header : goal.returns-then-not-is_header
returns-then-not-is_header c = elim c.then-not-is_header.branch [
  | then-not-is_header-via-then-not-is_header w ↦ rw (← no_header c.args.seen c.args.w (denied _ c.is_header.ensures (ap not w.if-not-is_header.true))) c.refuse.ensures
  | then-not-is_header-via-else-not-is_header+then-geo-eq-PATTERN_GEO w ↦ rw (← geo_5 c.args.seen c.args.w (granted _ c.is_header.ensures (ap not w.if-not-is_header.false)) (sym c.geo_of-geo.ensures ∙ w.if-geo-eq-PATTERN_GEO.true)) c.refuse.ensures
  | then-not-is_header-via-else-not-is_header+else-geo-eq-PATTERN_GEO+then-geo-eq-SCALER_GEO w ↦ rw (← geo_6 c.args.seen c.args.w (granted _ c.is_header.ensures (ap not w.if-not-is_header.false)) (sym c.geo_of-geo.ensures ∙ w.if-geo-eq-SCALER_GEO.true)) c.refuse.ensures
]

pub returns-then-contains : goal.returns-then-contains
returns-then-contains c = rw (← own_geo c.args.seen c.args.w (granted _ c.is_header.ensures (ap not c.if-not-is_header.false)) (λ e. c.if-geo-eq-PATTERN_GEO.false (c.geo_of-geo.ensures ∙ e))
    (λ e. c.if-geo-eq-SCALER_GEO.false (c.geo_of-geo.ensures ∙ e)) (is_in _ c.contains.ensures c.geo_of-geo.ensures (omega arith) ∙ c.if-contains.true)) c.refuse-then-contains.ensures

pub returns : goal.returns
returns c = rw (← own_geo c.args.seen c.args.w (granted _ c.is_header.ensures (ap not c.if-not-is_header.false)) (λ e. c.if-geo-eq-PATTERN_GEO.false (c.geo_of-geo.ensures ∙ e))
    (λ e. c.if-geo-eq-SCALER_GEO.false (c.geo_of-geo.ensures ∙ e)) (is_in _ c.contains.ensures c.geo_of-geo.ensures (omega arith) ∙ c.if-contains.false))
