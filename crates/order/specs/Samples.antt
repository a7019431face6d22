-- Forms in their order, by computation.
use Rattle.std.specs.Prelude.{◌≡◌, refl, []}
use Rattle.std.specs.declared.cmp.Ordering.TheVariants.{Less, Equal, Greater}
use Rattle.scan.specs.Ascii.{ascii}
use Rattle.order.specs.Order.{order, mix, mixed, front, key}

pub record Orders : Type 0 where
  pub same : order (ascii "max") (ascii "max") ≡ Equal
  pub byte : order (ascii "man") (ascii "max") ≡ Less
  pub back : order (ascii "max") (ascii "man") ≡ Greater
  -- the longer comes first
  pub front : order (ascii "max dose") (ascii "max") ≡ Less
  pub none : order [] (ascii "max") ≡ Greater

pub orders : Orders
unfolding order
orders = record { same = refl; byte = refl; back = refl; front = refl; none = refl }

-- keys
pub record Keys : Type 0 where
  pub nothing : key [] ≡ 0
  pub one : key (ascii "a") ≡ 148722

pub keys : Keys
unfolding mix mixed front key
keys = record { nothing = refl; one = refl }
