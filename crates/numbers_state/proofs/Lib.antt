pub mod StatesSaid
