-- The operations agree with their table.
use Rattle.std.proofs.Common.{◌≡◌, ℕ, zero, suc, ◌+◌, List, [], ◌∷◌, Some, slice_get, refl, ◌∙◌, subst, arith}
use Rattle.verse_code.specs.declared.operands.OperandKind.TheVariants as k
use Rattle.verse_code.specs.declared.operations.Op.{Op}
use Rattle.verse_code.specs.declared.operations.Op.TheVariants as o
use Rattle.verse_code.specs.declared.shapes.Parts.{Parts}
use Rattle.verse_code.specs.Operations.{code_of, operands_of}
use Rattle.verse_code.specs.Forms.{Form, bare, integer, one, two, three, four, forms, shape_of, made}
use Rattle.verse_code.specs.Agreement.{filled, Right, HasForm}

pub right_forms : Right 0 forms
right_forms = (
  λ p. (refl, refl),
  (
    λ p. (refl, refl),
    (
      λ p. (refl, refl),
      (
        λ p. (refl, refl),
        (
          λ p. (refl, refl),
          (
            λ p. (refl, refl),
            (
              λ p. (refl, refl),
              (
                λ p. (refl, refl),
                (
                  λ p. (refl, refl),
                  (
                    λ p. (refl, refl),
                    (
                      λ p. (refl, refl),
                      (
                        λ p. (refl, refl),
                        (
                          λ p. (refl, refl),
                          (
                            λ p. (refl, refl),
                            (
                              λ p. (refl, refl),
                              (
                                λ p. (refl, refl),
                                (
                                  λ p. (refl, refl),
                                  (
                                    λ p. (refl, refl),
                                    (
                                      λ p. (refl, refl),
                                      (
                                        λ p. (refl, refl),
                                        (
                                          λ p. (refl, refl),
                                          (
                                            λ p. (refl, refl),
                                            (
                                              λ p. (refl, refl),
                                              (
                                                λ p. (refl, refl),
                                                (
                                                  λ p. (refl, refl),
                                                  (
                                                    λ p. (refl, refl),
                                                    (
                                                      λ p. (refl, refl),
                                                      (
                                                        λ p. (refl, refl),
                                                        (
                                                          λ p. (refl, refl),
                                                          (
                                                            λ p. (refl, refl),
                                                            (
                                                              λ p. (refl, refl),
                                                              (
                                                                λ p. (refl, refl),
                                                                (
                                                                  λ p. (refl, refl),
                                                                  (
                                                                    λ p. (refl, refl),
                                                                    (
                                                                      λ p. (refl, refl),
                                                                      (
                                                                        λ p. (refl, refl),
                                                                        (
                                                                          λ p. (refl, refl),
                                                                          (
                                                                            λ p. (refl, refl),
                                                                            (
                                                                              λ p. (refl, refl),
                                                                              (
                                                                                λ p. (refl, refl),
                                                                                (
                                                                                  λ p. (refl, refl),
                                                                                  (
                                                                                    λ p. (refl, refl),
                                                                                    (
                                                                                      λ p. (refl, refl),
                                                                                      (
                                                                                        λ p. (refl, refl),
                                                                                        (
                                                                                          λ p. (refl, refl),
                                                                                          (
                                                                                            λ p. (refl, refl),
                                                                                            (
                                                                                              λ p. (refl, refl),
                                                                                              (
                                                                                                λ p. (refl, refl),
                                                                                                (
                                                                                                  λ p. (refl, refl),
                                                                                                  (
                                                                                                    λ p. (refl, refl),
                                                                                                    (
                                                                                                      λ p. (refl, refl),
                                                                                                      (
                                                                                                        λ p. (refl, refl),
                                                                                                        (
                                                                                                          λ p. (refl, refl),
                                                                                                          (
                                                                                                            λ p. (refl, refl),
                                                                                                            (
                                                                                                              λ p. (refl, refl),
                                                                                                              (
                                                                                                                λ p. (refl, refl),
                                                                                                                (
                                                                                                                  λ p. (refl, refl),
                                                                                                                  (
                                                                                                                    λ p. (refl, refl),
                                                                                                                    (
                                                                                                                      λ p. (refl, refl),
                                                                                                                      (
                                                                                                                        λ p. (refl, refl),
                                                                                                                        (
                                                                                                                          λ p. (refl, refl),
                                                                                                                          (
                                                                                                                            λ p. (refl, refl),
                                                                                                                            (
                                                                                                                              λ p. (refl, refl),
                                                                                                                              (
                                                                                                                                λ p. (refl, refl),
                                                                                                                                (
                                                                                                                                  λ p. (refl, refl),
                                                                                                                                  (λ p. (refl, refl), (λ p. (refl, refl), tt)),
                                                                                                                                ),
                                                                                                                              ),
                                                                                                                            ),
                                                                                                                          ),
                                                                                                                        ),
                                                                                                                      ),
                                                                                                                    ),
                                                                                                                  ),
                                                                                                                ),
                                                                                                              ),
                                                                                                            ),
                                                                                                          ),
                                                                                                        ),
                                                                                                      ),
                                                                                                    ),
                                                                                                  ),
                                                                                                ),
                                                                                              ),
                                                                                            ),
                                                                                          ),
                                                                                        ),
                                                                                      ),
                                                                                    ),
                                                                                  ),
                                                                                ),
                                                                              ),
                                                                            ),
                                                                          ),
                                                                        ),
                                                                      ),
                                                                    ),
                                                                  ),
                                                                ),
                                                              ),
                                                            ),
                                                          ),
                                                        ),
                                                      ),
                                                    ),
                                                  ),
                                                ),
                                              ),
                                            ),
                                          ),
                                        ),
                                      ),
                                    ),
                                  ),
                                ),
                              ),
                            ),
                          ),
                        ),
                      ),
                    ),
                  ),
                ),
              ),
            ),
          ),
        ),
      ),
    ),
  ),
)

pub right_at : (fs : List Form) (from i : ℕ) (f : Form) → Right from fs → slice_get fs i ≡ Some f → (p : Parts) →
    (code_of (made p f) ≡ from + i) × (operands_of (made p f) ≡ filled p (shape_of f))
right_at [] from i f r e p = absurd cc
right_at (g ∷ fs) from zero f r e p =
    let same : g ≡ f = cc in
    let here : from ≡ from + 0 = omega arith in
    subst (λ h. (code_of (made p h) ≡ from + 0) × (operands_of (made p h) ≡ filled p (shape_of h))) same ((r.0 p).0 ∙ here, (r.0 p).1)
right_at (g ∷ fs) from (suc i) f r e p =
    let t = right_at fs (suc from) i f r.1 e p in
    (t.0 ∙ omega arith, t.1)

pub op_form : (op : Op) → HasForm op
op_form (o.Int n) = record { form = integer o.Int; at = refl; makes = refl; shaped = refl }
op_form o.Unit = record { form = bare o.Unit; at = refl; makes = refl; shaped = refl }
op_form o.False = record { form = bare o.False; at = refl; makes = refl; shaped = refl }
op_form o.True = record { form = bare o.True; at = refl; makes = refl; shaped = refl }
op_form (o.Char a) = record { form = one k.Char o.Char; at = refl; makes = refl; shaped = refl }
op_form (o.Text a) = record { form = one k.Text o.Text; at = refl; makes = refl; shaped = refl }
op_form (o.Enum a b) = record { form = two k.Number k.Number o.Enum; at = refl; makes = refl; shaped = refl }
op_form (o.Get a) = record { form = one k.Number o.Get; at = refl; makes = refl; shaped = refl }
op_form (o.Put a) = record { form = one k.Number o.Put; at = refl; makes = refl; shaped = refl }
op_form o.Drop = record { form = bare o.Drop; at = refl; makes = refl; shaped = refl }
op_form (o.Add a) = record { form = one k.Place o.Add; at = refl; makes = refl; shaped = refl }
op_form (o.Sub a) = record { form = one k.Place o.Sub; at = refl; makes = refl; shaped = refl }
op_form (o.Mul a) = record { form = one k.Place o.Mul; at = refl; makes = refl; shaped = refl }
op_form (o.Neg a) = record { form = one k.Place o.Neg; at = refl; makes = refl; shaped = refl }
op_form (o.Floor a) = record { form = one k.Place o.Floor; at = refl; makes = refl; shaped = refl }
op_form (o.Ceil a) = record { form = one k.Place o.Ceil; at = refl; makes = refl; shaped = refl }
op_form o.Mod = record { form = bare o.Mod; at = refl; makes = refl; shaped = refl }
op_form (o.Concat a) = record { form = one k.Place o.Concat; at = refl; makes = refl; shaped = refl }
op_form (o.Join a b) = record { form = two k.Number k.Place o.Join; at = refl; makes = refl; shaped = refl }
op_form o.Lt = record { form = bare o.Lt; at = refl; makes = refl; shaped = refl }
op_form o.Le = record { form = bare o.Le; at = refl; makes = refl; shaped = refl }
op_form o.Gt = record { form = bare o.Gt; at = refl; makes = refl; shaped = refl }
op_form o.Ge = record { form = bare o.Ge; at = refl; makes = refl; shaped = refl }
op_form o.Eq = record { form = bare o.Eq; at = refl; makes = refl; shaped = refl }
op_form o.Ne = record { form = bare o.Ne; at = refl; makes = refl; shaped = refl }
op_form (o.Array a b) = record { form = two k.Number k.Place o.Array; at = refl; makes = refl; shaped = refl }
op_form (o.Map a b) = record { form = two k.Number k.Place o.Map; at = refl; makes = refl; shaped = refl }
op_form (o.Tuple a b) = record { form = two k.Number k.Place o.Tuple; at = refl; makes = refl; shaped = refl }
op_form (o.Some a) = record { form = one k.Place o.Some; at = refl; makes = refl; shaped = refl }
op_form o.Query = record { form = bare o.Query; at = refl; makes = refl; shaped = refl }
op_form (o.Item a) = record { form = one k.Number o.Item; at = refl; makes = refl; shaped = refl }
op_form o.At = record { form = bare o.At; at = refl; makes = refl; shaped = refl }
op_form o.Length = record { form = bare o.Length; at = refl; makes = refl; shaped = refl }
op_form (o.New a) = record { form = one k.Place o.New; at = refl; makes = refl; shaped = refl }
op_form (o.Load a) = record { form = one k.Number o.Load; at = refl; makes = refl; shaped = refl }
op_form (o.Store a b c d) = record { form = four k.Number k.Number k.Mode k.Place o.Store; at = refl; makes = refl; shaped = refl }
op_form (o.Object a b) = record { form = two k.Class k.Place o.Object; at = refl; makes = refl; shaped = refl }
op_form (o.Event a) = record { form = one k.Place o.Event; at = refl; makes = refl; shaped = refl }
op_form (o.Jump a) = record { form = one k.Ahead o.Jump; at = refl; makes = refl; shaped = refl }
op_form (o.Same a) = record { form = one k.Ahead o.Same; at = refl; makes = refl; shaped = refl }
op_form (o.Again a) = record { form = one k.Behind o.Again; at = refl; makes = refl; shaped = refl }
op_form (o.Try a) = record { form = one k.Ahead o.Try; at = refl; makes = refl; shaped = refl }
op_form o.Commit = record { form = bare o.Commit; at = refl; makes = refl; shaped = refl }
op_form o.Undo = record { form = bare o.Undo; at = refl; makes = refl; shaped = refl }
op_form o.Fail = record { form = bare o.Fail; at = refl; makes = refl; shaped = refl }
op_form (o.Call a) = record { form = one k.Function o.Call; at = refl; makes = refl; shaped = refl }
op_form (o.Method a b) = record { form = two k.Number k.Number o.Method; at = refl; makes = refl; shaped = refl }
op_form o.Return = record { form = bare o.Return; at = refl; makes = refl; shaped = refl }
op_form (o.Each a) = record { form = one k.Number o.Each; at = refl; makes = refl; shaped = refl }
op_form (o.Range a) = record { form = one k.Number o.Range; at = refl; makes = refl; shaped = refl }
op_form (o.Take a b c) = record { form = three k.Number k.Number k.Behind o.Take; at = refl; makes = refl; shaped = refl }
op_form (o.Append a b) = record { form = two k.Number k.Place o.Append; at = refl; makes = refl; shaped = refl }
op_form (o.Print a) = record { form = one k.Place o.Print; at = refl; makes = refl; shaped = refl }
op_form (o.Sleep a) = record { form = one k.Pause o.Sleep; at = refl; makes = refl; shaped = refl }
op_form o.Forever = record { form = bare o.Forever; at = refl; makes = refl; shaped = refl }
op_form o.AwaitTask = record { form = bare o.AwaitTask; at = refl; makes = refl; shaped = refl }
op_form o.AwaitEvent = record { form = bare o.AwaitEvent; at = refl; makes = refl; shaped = refl }
op_form o.Signal = record { form = bare o.Signal; at = refl; makes = refl; shaped = refl }
op_form (o.Spawn a) = record { form = one k.Function o.Spawn; at = refl; makes = refl; shaped = refl }
op_form (o.SpawnMethod a b) = record { form = two k.Number k.Number o.SpawnMethod; at = refl; makes = refl; shaped = refl }
op_form (o.Group a b c) = record { form = three k.Group k.Arms k.Place o.Group; at = refl; makes = refl; shaped = refl }
op_form (o.Arm a) = record { form = one k.Ahead o.Arm; at = refl; makes = refl; shaped = refl }
op_form (o.Branch a) = record { form = one k.Ahead o.Branch; at = refl; makes = refl; shaped = refl }
op_form o.ArmEnd = record { form = bare o.ArmEnd; at = refl; makes = refl; shaped = refl }
op_form (o.Defer a) = record { form = one k.Ahead o.Defer; at = refl; makes = refl; shaped = refl }
op_form (o.Leave a) = record { form = one k.Number o.Leave; at = refl; makes = refl; shaped = refl }
op_form o.DeferEnd = record { form = bare o.DeferEnd; at = refl; makes = refl; shaped = refl }
