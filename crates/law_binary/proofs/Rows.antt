-- Long rows of facts, one in front of the others.

pub also : {A B : Type 0} → A → B → A × B
also a b = (a, b)

-- what is known of a row of a table, and of the rows behind it
pub row : {A B C D E : Type 0} → A → B → C → D → E → A × B × C × D × E
row a b c d e = (a, b, c, d, e)
