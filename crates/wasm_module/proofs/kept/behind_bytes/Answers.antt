use Rattle.std.proofs.Common.{◌-◌, ◌*◌, List, length, ap, arith}
use Rattle.std.specs.List.{sum_by}
use Rattle.wasm_syntax.specs.declared.segments.DataDecl.{DataDecl}
use Rattle.wasm_module.proofs.LeadLemmas.{uncons}
use Rattle.wasm_module.proofs.KeptLemmas.{one_less}
use Rattle.wasm_module.proofs.kept.behind_bytes.Goals as goal

pub segments-init : goal.segments-init
segments-init c =
    record {
      left = ap (λ (es : List DataDecl). c.args.number - 8 * sum_by (λ (e : DataDecl). length e.bytes) es) c.as_slice-rest.ensures;
      less = omega arith;
    }

pub segments-preserved : goal.segments-preserved
segments-preserved c =
    let at = c.segments in
    record {
      left =
          one_less (λ (e : DataDecl). length e.bytes) c.segment-item.result _ at.rest.now c.args.number at.left
          c.saturating_mul.result c.saturating_sub-left.result _
          (uncons at.rest.now c.segment-item.result (omega (arith, c.in-len1-up.len_at_least)) c.segment-item.is)
          at.invariant.left at.invariant.less c.ranges.number.fits
          (omega (arith, c.saturating_mul.ensures, c.len.ensures)) c.saturating_sub-left.ensures;
      less = omega (arith, at.invariant.less, c.saturating_sub-left.ensures);
    }
