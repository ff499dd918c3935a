-- Clearing the bits by a mask and putting the value there by `|` is what `with_bits` says by division.
use Rattle.std.proofs.Common.{◌≡◌, ℕ, zero, suc, ◌+◌, ◌-◌, ◌^◌, ◌%◌, ◌*◌, ◌/◌, ◌<◌, ◌≤◌, ◌∙◌, ap, sym, arith, add_comm, lit<}
use Rattle.std.specs.Prelude.{bit_and, bit_or}
use Rattle.std.specs.Int.Bits.{or_zero_r}
use Rattle.std.proofs.Math.Nat.{pow-le-pow_right}
use Rattle.std.proofs.lemmas.Nat.{pow-add, pow_pos, one_shl, shl_whole, shl_below, and-not, and_comm, shr_split, mod-pow-add, or_block, or_shifted, mod_below}
use Rattle.std.proofs.lemmas.Nat.Bits.{and_high}
use Rattle.reri_fields.proofs.Places.{split}
use Rattle.reri_fields.proofs.bits.with_field.Goals as goal

one_less_times : (a b : ℕ) → (a - 1) * b ≡ a * b - b
one_less_times zero b = omega arith
one_less_times (suc a) b =
    let e : suc a - 1 ≡ a = omega arith in
    rw e (omega arith)

mask_of : (low width : ℕ) → (2 ^ width - 1) * 2 ^ low ≡ 2 ^ (width + low) - 2 ^ low
mask_of low width = one_less_times (2 ^ width) (2 ^ low) ∙ ap (λ n. n - 2 ^ low) (sym (pow-add 2 width low))

mask_fits : (low width : ℕ) → low + width ≤ 64 → (2 ^ width - 1) * 2 ^ low < 2 ^ 64
mask_fits low width inside =
    let small : 2 ^ width - 1 < 2 ^ width = omega (arith, pow_pos width) in
    let below : (2 ^ width - 1) * 2 ^ low < 2 ^ (width + low) = shl_below (2 ^ width - 1) width low small in
    let bound : 2 ^ (width + low) ≤ 2 ^ 64 = pow-le-pow_right {n = 2} (lit< tt) {i = width + low} {j = 64}
    (omega arith) in
    omega arith

-- the word without the bits
cleared : (word low width : ℕ) → word < 2 ^ 64 → low + width ≤ 64
    → bit_and word (2 ^ 64 - 1 - (2 ^ width - 1) * 2 ^ low)
    ≡ word / 2 ^ (low + width) * 2 ^ (low + width) + word % 2 ^ low
cleared word low width fits inside =
    let mask : ℕ = (2 ^ width - 1) * 2 ^ low in
    let under : bit_and mask word ≡ word / 2 ^ low % 2 ^ width * 2 ^ low =
    and_comm mask word ∙ ap (λ n. bit_and word n) (mask_of low width) ∙ and_high word width low in
    let parts : bit_and (2 ^ 64 - 1 - mask) word + bit_and mask word
    ≡ word = and-not 64 mask word (mask_fits low width inside) fits in
    let whole : word / 2 ^ (low + width) * 2 ^ (low + width) + word % 2 ^ (low + width)
    ≡ word = shr_split word (low + width) in
    let rest : word % 2 ^ (low + width) ≡ word / 2 ^ low % 2 ^ width * 2 ^ low + word % 2 ^ low =
    ap (λ n. word % 2 ^ n) (add_comm low width) ∙ mod-pow-add word width low in
    and_comm word (2 ^ 64 - 1 - mask) ∙ omega arith

-- the value put beside it
joined : (high low width value rest : ℕ) → value < 2 ^ width → rest < 2 ^ low
    → bit_or (high * 2 ^ (low + width) + rest) (value * 2 ^ low) ≡ (high * 2 ^ width + value) * 2 ^ low + rest
joined high low width value rest fits below =
    let moved : (h p q r : ℕ) → h * (p * q) + r ≡ h * q * p + r = λ h p q r. omega arith in
    let first : high * 2 ^ (low + width) + rest
    ≡ high * 2 ^ width * 2 ^ low + rest = rw (pow-add 2 low width) (moved high (2 ^ low) (2 ^ width) rest) in
    let second : value * 2 ^ low ≡ value * 2 ^ low + 0 = omega arith in
    ap (λ n. bit_or n (value * 2 ^ low)) first
    ∙ ap (λ n. bit_or (high * 2 ^ width * 2 ^ low + rest) n) second
    ∙ or_block low (high * 2 ^ width) value rest 0 below (pow_pos low)
    ∙ ap (λ n. n * 2 ^ low + bit_or rest 0) (or_shifted high width value fits)
    ∙ ap (λ n. (high * 2 ^ width + value) * 2 ^ low + n) (or_zero_r rest)

pub returns : goal.returns
returns c =
    let word : ℕ = c.args.word in
    let low : ℕ = c.args.low in
    let width : ℕ = c.args.width in
    let value : ℕ = c.args.value in
    let small : 2 ^ width - 1 < 2 ^ width = omega (arith, pow_pos width) in
    let one : 1 * 2 ^ width % 2 ^ 64 ≡ 2 ^ width = one_shl width 64 c.requires.narrow in
    let mask : (2 ^ width - 1) * 2 ^ low % 2 ^ 64
    ≡ (2 ^ width - 1) * 2 ^ low = shl_whole (2 ^ width - 1) width low 64 small (omega arith) in
    let shifted : value * 2 ^ low % 2 ^ 64
    ≡ value * 2 ^ low = shl_whole value width low 64 c.requires.fits (omega arith) in
    rw (one, mask, shifted, cleared word low width (omega arith) c.requires.inside)
    (joined (word / 2 ^ (low + width)) low width value (word % 2 ^ low) c.requires.fits
    (mod_below word (2 ^ low) (pow_pos low))
    ∙ sym (split word low width value))
