-- Bounds of products, for the size of an image.
use Rattle.std.proofs.Common.{◌≡◌, ℕ, ◌+◌, ◌-◌, ◌*◌, ◌^◌, ◌<◌, ◌≤◌, sym, ap, ◌∙◌, mul-le-mul_right, mul_assoc, mul_comm, add-mul, mul-le-mul, mul-le-mul_left, one-mul, pow-suc, mul-add, mul_left_comm, arith}
use native.Mathlib.Decide.{dec_le}
use native.Mathlib.Nat.{pow-zero}

-- twice a product is at most the sum of the squares
apart : (a k : ℕ) → 2 * (a * (a + k)) ≤ a * a + (a + k) * (a + k)
apart a k = omega (arith, mul-add a a k, add-mul a k (a + k), mul-add k a k, mul_comm k a)

squares : (a b : ℕ) → 2 * (a * b) ≤ a * a + b * b
squares a b = go (dec_le a b)
  where
    go : Dec (a ≤ b) → 2 * (a * b) ≤ a * a + b * b
    go (yes h) = let e : a + (b - a) ≡ b = omega arith in rw e at (apart a (b - a))
    go (no h) = let e : b + (a - b) ≡ a = omega arith in omega (arith, rw e at (apart b (a - b)), mul_comm a b)

-- four times a product is at most the square of any number that is not below the sum
pub product-few : (a b w : ℕ) → a + b ≤ w → 4 * (a * b) ≤ w * w
product-few a b w h =
    omega (arith, squares a b, mul-le-mul h h, add-mul a b (a + b), mul-add a a b, mul-add b a b, mul_comm b a)

-- the words of nodes and of pairs, in products of counts
pub node-product : (m b c v k : ℕ) → m * ((1 + b + c) * k + 2 * (b * (v * k))) ≡ (m + m * b + m * c + 2 * (b * (m * v))) * k
node-product m b c v k =
    let e : m * (1 + b + c) ≡ m + m * b + m * c = omega (arith, mul-add m (1 + b) c, mul-add m 1 b) in
    let f : m * ((1 + b + c) * k) ≡ (m + m * b + m * c) * k = sym (mul_assoc m (1 + b + c) k) ∙ ap (λ (x : ℕ). x * k) e in
    let g : m * (b * (v * k)) ≡ (b * (m * v)) * k =
    mul_left_comm m b (v * k) ∙ ap (λ (x : ℕ). b * x) (sym (mul_assoc m v k)) ∙ sym (mul_assoc b (m * v) k) in
    omega (
      arith,
      mul-add m ((1 + b + c) * k) (2 * (b * (v * k))),
      mul_left_comm m 2 (b * (v * k)),
      add-mul (m + m * b + m * c) (2 * (b * (m * v))) k,
      mul_assoc 2 (b * (m * v)) k,
    )

pub pair-product : (c r v k : ℕ) → c * (r * (v * (v * k))) ≡ (c * v) * (r * v) * k
pair-product c r v k =
    ap (λ (x : ℕ). c * x) (sym (mul_assoc r v (v * k)) ∙ mul_left_comm (r * v) v k)
    ∙ sym (mul_assoc c v (r * v * k)) ∙ sym (mul_assoc (c * v) (r * v) k)

pub fourth : (w : ℕ) → w ^ 4 ≡ (w * w) * (w * w)
fourth w =
    let one : w ^ 1 ≡ w = pow-suc w 0 ∙ ap (λ (x : ℕ). x * w) (pow-zero w) ∙ one-mul w in
    let two : w ^ 2 ≡ w * w = pow-suc w 1 ∙ ap (λ (x : ℕ). x * w) one in
    pow-suc w 3 ∙ ap (λ (x : ℕ). x * w) (pow-suc w 2) ∙ mul_assoc (w ^ 2) w w ∙ ap (λ (x : ℕ). x * (w * w)) two

-- ---- the sum of all words

module _ (m c r b v n : ℕ) (list : n ≤ b * (v + b) + b + m * (1 + 2 * b)) where
  abbrev words : ℕ
  words = 8 + n + (m * ((1 + b + c) * 83 + 2 * (b * (v * 83))) + c * (r * (v * (v * 83))))

  words_are : words ≡ 8 + n + (m + m * b + m * c + 2 * (b * (m * v)) + (c * v) * (r * v)) * 83
  words_are =
      omega (arith, node-product m b c v 83, pair-product c r v 83, add-mul (m + m * b + m * c + 2 * (b * (m * v))) ((c * v) * (r * v)) 83)

  list-few : n ≤ b * v + b * b + b + m + 2 * (m * b)
  list-few = omega (arith, mul-add b v b, mul-add m 1 (2 * b), mul_left_comm m 2 b)

  -- "image words ≤ (table words + P)⁴"
  pub below-fourth : (w : ℕ) → v + 3 * m + 4 * c + 17 ≤ w → c + 1 ≤ m → b + 1 ≤ v → r ≤ c → words ≤ w ^ 4
  below-fourth w h cm bv rc =
      let y = w * w in
      let z = w * y in
      let mv : 12 * (m * v) ≤ y = omega (arith, product-few (3 * m) v w (omega arith), mul_assoc 3 m v) in
      let cv : 28 * (c * v) ≤ y = omega (arith, product-few (7 * c) v w (omega arith), mul_assoc 7 c v) in
      let mc : 48 * (m * c) ≤ y = omega (arith, product-few (3 * m) (4 * c) w (omega arith), mul_assoc 3 m (4 * c), mul_left_comm m 4 c) in
      let mb : m * b ≤ m * v = mul-le-mul_left m (omega arith) in
      let bmv : 12 * (b * (m * v)) ≤ z = omega
      (arith, mul_left_comm b 12 (m * v), mul-le-mul {n₁ = b} {m₁ = 12 * (m * v)} {n₂ = w} {m₂ = y} (omega arith) mv) in
      let rv : r * v ≤ c * v = mul-le-mul_right v rc in
      let pv : (c * v) * (r * v) ≤ (c * v) * (c * v) = mul-le-mul_left (c * v) rv in
      let sq : 784 * ((c * v) * (c * v)) ≤ y * y = omega (
        arith,
        mul-le-mul {n₁ = 28 * (c * v)} {m₁ = 28 * (c * v)} {n₂ = y} {m₂ = y} cv cv,
        mul_assoc 28 (c * v) (28 * (c * v)),
        mul_left_comm (c * v) 28 (c * v),
      ) in
      let bb : b * v ≤ y = mul-le-mul {n₁ = b} {m₁ = v} {n₂ = w} {m₂ = w} (omega arith) (omega arith) in
      let bc : b * b ≤ y = mul-le-mul {n₁ = b} {m₁ = b} {n₂ = w} {m₂ = w} (omega arith) (omega arith) in
      let wy : 21 * w ≤ y = mul-le-mul_right w (omega arith) in
      let yz : 21 * y ≤ z = mul-le-mul_right y (omega arith) in
      let zf : 21 * z ≤ y * y = omega (arith, mul_assoc 21 w y, mul-le-mul_right y wy) in
      omega (arith, words_are, list-few, fourth w)

  pub below-words : m ≤ 256 → c ≤ 256 → r ≤ 32 → b ≤ 32 → v ≤ 65 → words < 2 ^ 32
  below-words hm hc hr hb hv =
      let mb : m * b ≤ 8192 = mul-le-mul {n₁ = m} {m₁ = b} {n₂ = 256} {m₂ = 32} hm hb in
      let mc : m * c ≤ 65536 = mul-le-mul {n₁ = m} {m₁ = c} {n₂ = 256} {m₂ = 256} hm hc in
      let mv : m * v ≤ 16640 = mul-le-mul {n₁ = m} {m₁ = v} {n₂ = 256} {m₂ = 65} hm hv in
      let bmv : b * (m * v) ≤ 532480 = mul-le-mul {n₁ = b} {m₁ = m * v} {n₂ = 32} {m₂ = 16640} hb mv in
      let cv : c * v ≤ 16640 = mul-le-mul {n₁ = c} {m₁ = v} {n₂ = 256} {m₂ = 65} hc hv in
      let rv : r * v ≤ 2080 = mul-le-mul {n₁ = r} {m₁ = v} {n₂ = 32} {m₂ = 65} hr hv in
      let pv : (c * v) * (r * v) ≤ 34611200 = mul-le-mul {n₁ = c * v} {m₁ = r * v} {n₂ = 16640} {m₂ = 2080} cv rv in
      let bv : b * v ≤ 2080 = mul-le-mul {n₁ = b} {m₁ = v} {n₂ = 32} {m₂ = 65} hb hv in
      let bb : b * b ≤ 1024 = mul-le-mul {n₁ = b} {m₁ = b} {n₂ = 32} {m₂ = 32} hb hb in
      omega (arith, words_are, list-few)
