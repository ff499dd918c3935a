-- A bank is put together record by record.
use Rattle.std.proofs.Common.{◌≡◌, ◌≤◌, ◌++◌, ◌∷◌, [], map, take, get_or, sym, ◌∙◌, subst, arith, rules}
use Rattle.std.proofs.lemmas.List.{map_more, take_all, length-map}
use Rattle.std.proofs.lemmas.List.Elements.{All-get_or}
use Rattle.reri_fields.specs.Words.{registers}
use Rattle.reri_bank.specs.Registers.{origin_of}
use Rattle.reri_bank.proofs.Fresh.{clean_control}
use Rattle.reri_bank.proofs.Starting.{Started, started_none, started_more, started_stands, started_many, started_laid}
use Rattle.reri_bank.proofs.bank.Bank.new.Goals as goal
use Rattle.reri_bank.proofs.bank.Bank.new.Goals.{After-loop-control}

pub loop-control-init : goal.loop-control-init
loop-control-init c =
    let first : c.push.new.self.items ≡ 0 ∷ [] = search rules in
    started_none c.push.new.self.items first

pub loop-control-preserved : goal.loop-control-preserved
loop-control-preserved c =
    let start = c.args.start.now in
    let k = c.loop-control.control-index in
    let longer : c.extend_from_slice.new.self.items ≡ c.loop-control.words.items
    ++ registers c.fresh.result = search rules in
    let clean =
    clean_control _
    (All-get_or (λ first. first.0 ≤ 255) start k (0, 0) c.loop-control-test.true c.requires.controls) in
    subst (λ origins. Started origins c.extend_from_slice.new.self.items)
    (sym (map_more origin_of start k (0, 0) c.loop-control-test.true))
    (subst (λ words. Started (map origin_of (take k start) ++ origin_of (get_or start k (0, 0)) ∷ []) words)
    (sym longer)
    (started_more (map origin_of (take k start)) (origin_of (get_or start k (0, 0))) c.loop-control.words.items
    c.fresh.result c.loop-control.invariant clean c.fresh.ensures.stands (c.fresh.ensures.clean clean)))

-- the words of all records
whole : (c : After-loop-control) → Started (map origin_of c.args.start.now) c.loop-control.words.items
whole c =
    subst (λ start. Started (map origin_of start) c.loop-control.words.items)
    (take_all c.loop-control.control-index c.args.start.now (omega arith)) c.loop-control.invariant

pub invariant_of-result : goal.invariant_of-result
invariant_of-result c =
    let many = length-map c.args.start.now origin_of in (
      started_laid (map origin_of c.args.start.now) c.loop-control.words.items (omega (arith, many, c.requires.any))
          (omega (arith, many, c.requires.room)) (whole c),
      sym
          (started_many (map origin_of c.args.start.now) c.loop-control.words.items (whole c) ∙ many),
    )

pub returns : goal.returns
returns c = started_stands (map origin_of c.args.start.now) c.loop-control.words.items (whole c)
