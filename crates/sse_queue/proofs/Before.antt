-- Which of two events is the more urgent.
use Rattle.std.proofs.Common.{◌≡◌, true, false, arith}
use Rattle.std.proofs.lemmas.Bool.Decides.{nat_tests}
use Rattle.sse_base.specs.Ids.{id_of}
use Rattle.sse_base.specs.Choice.{is_more_urgent}
use Rattle.sse_queue.specs.declared.urgency.Waiting.{Waiting}
use Rattle.sse_queue.specs.Order.{is_before}

-- what is more urgent than what is more urgent
pub before_both : (a b c : Waiting) → is_before a b ≡ true → is_before b c ≡ true → is_before a c ≡ true
unfolding is_more_urgent
before_both a b c p q = grind (arith, nat_tests)

-- of two events one is more urgent, and never both
pub one_before : (a b : Waiting) → is_before a b ≡ false → ((id_of a.at).0 ≡ (id_of b.at).0 → ⊥) → is_before b a ≡ true
unfolding is_more_urgent
one_before a b p q = grind (arith, nat_tests)

pub never_both : (a b : Waiting) → is_before a b ≡ true → is_before b a ≡ false
unfolding is_more_urgent
never_both a b p = grind (arith, nat_tests)

-- what is no more urgent than the first of two in order is less urgent than the second
pub before_past : (a b c : Waiting) → is_before a b ≡ true → is_before a c ≡ false → is_before c b ≡ true
unfolding is_more_urgent
before_past a b c p q = grind (arith, nat_tests)
