use Rattle.std.proofs.Common.{◌≡◌, ◌∙◌, ◌-◌, ℕ, List, length, take, drop, sym, ap, subst, arith, length-drop}
use Rattle.std.proofs.Math.Seq.{take-add}
use Rattle.std.proofs.lemmas.List.{take_all}
use Rattle.std.proofs.KnownBytes.{Appends-trans}
use Rattle.std.specs.Io.KnownBytes.{Appends}
use Rattle.byte_streams.proofs.output.write_bytes.Goals as goal

abbrev rest_is : (at : ℕ) (bytes : List ℕ) → take (length bytes - at) (drop at bytes) ≡ drop at bytes
rest_is at bytes = take_all (length bytes - at) (drop at bytes) (omega (arith, length-drop at bytes))

pub loop-at-preserved : goal.loop-at-preserved
loop-at-preserved g c =
    let i = c.loop-at.invariant in
    let bytes = c.args.bytes.now in
    let at = c.loop-at.at in
    let n = c.in_ok-at.field-0 in
    let same = rest_is at bytes in
    let more = subst (λ l. Appends (g.O.Output.contents c.loop-at.output) (g.O.Output.contents c.write.new.self) (take n l)) same c.in_ok-at.ensures.bytes in (
      omega (arith, i.0, c.in_ok-at.ensures.bound, ap length same, length-drop at bytes),
      c.in_ok-at.ensures.cause.kept ∙ i.1,
      subst (Appends (g.O.Output.contents c.args.output.now) (g.O.Output.contents c.write.new.self)) (sym (take-add at n bytes))
          (Appends-trans _ _ _ (take at bytes) (take n (drop at bytes)) i.2 more),
    )
