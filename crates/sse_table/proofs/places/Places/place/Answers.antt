-- Where the hint finds the instance, that is its place.
use Rattle.std.proofs.Common.{◌<◌, All, List, length, sym, ap, ◌∙◌, subst, arith}
use Rattle.sse_base.specs.declared.ids.Instance.{Instance}
use Rattle.sse_base.specs.Ids.{place}
use Rattle.sse_table.specs.Places.{StandsFirst}
use Rattle.sse_table.proofs.Hints.{found_first}
use Rattle.sse_table.proofs.places.Places.place.Goals as goal

pub returns-in-Some : goal.returns-in-Some
returns-in-Some c =
    let x = c.self.inside in
    let all = c.deref.result.now in
    let looked = c.in-Some.ensures.lookup in
    let there : c.hint_of.result < length x.hints = omega (arith, c.hint_of.ensures, c.self.invariant.0) in
    found_first all x.hints c.hint_of.result c.in-Some.found.now c.args.at there
    (subst (λ (is : List Instance). All (StandsFirst is) x.hints) (sym c.deref.ensures.value) c.self.invariant.1)
    looked.3.0 looked.1 (sym c.same.ensures ∙ c.if-same.true)
    ∙ ap (λ (is : List Instance). place c.args.at is) (c.deref.ensures.value ∙ c.self.view_is)
