-- A rule does one thing at a tok.
use Rattle.std.proofs.Common.{◌≡◌, List}
use Rattle.verse_grammar.specs.Symbols.{Symbol, Move, takes, becomes, refuses}

pub takes_takes : {M : Move} {Xs Ys : List Symbol} → M ≡ takes Xs → M ≡ takes Ys → Xs ≡ Ys
takes_takes g h = cc

pub becomes_becomes : {M : Move} {Xs Ys : List Symbol} → M ≡ becomes Xs → M ≡ becomes Ys → Xs ≡ Ys
becomes_becomes g h = cc

pub takes_becomes : {M : Move} {Xs Ys : List Symbol} → M ≡ takes Xs → M ≡ becomes Ys → ⊥
takes_becomes g h = cc

pub takes_refuses : {M : Move} {Xs : List Symbol} → M ≡ takes Xs → M ≡ refuses → ⊥
takes_refuses g h = cc

pub becomes_refuses : {M : Move} {Xs : List Symbol} → M ≡ becomes Xs → M ≡ refuses → ⊥
becomes_refuses g h = cc
